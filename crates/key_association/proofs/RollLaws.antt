-- Laws of the clock's rule on one record: what it mints, by case, and that it is the rule of the keys made.
use mathlib.Core.Path.{◌≡◌, refl, ap}
use mathlib.Core.Bool.{Bool, true, false}
use Prim.Native.Nat.{ℕ, ◌+◌, ◌*◌, ◌%◌, ◌<◌, ◌≤◌}
use mathlib.Core.List.{List}
use native.Mathlib.Omega.{arith}
use lib.Dec.{ltb}
use borrow.Author.Tests.{lt-ltb, le-ltb}
use Rattle.key_traffic.specs.Numbers.{after_of, tek_number_of}
use Rattle.key_traffic.specs.Suites.{width_of}
use Rattle.key_traffic.specs.declared.numbers.TekNumber.{TekNumber}
use Rattle.key_association.specs.declared.record.Assoc.{Assoc}
use Rattle.key_association.specs.Mint.{mint_of}
use Rattle.key_association.specs.Roll.{rolled_by, rolled_of}
use Rattle.key_association.specs.Listing.{fresh_of}
use Rattle.key_association.specs.Made.{Generations, SaidSuite, mints_by, with_all_made, generations_to, listed_generations, record_of}

module _ (half t : ℕ) (m : List ℕ) (at : ℕ) (a : Assoc) where
  -- the older still counts: nothing is minted
  pub roll_none : t < a.older.deadline → rolled_of half t m at a ≡ a
  unfolding rolled_of
  roll_none live = simp (lt-ltb t a.older.deadline live)

  -- the older is past, the newer counts: one generation, H after the newer
  pub roll_one : a.older.deadline ≤ t → t < a.newer.deadline → rolled_of half t m at a
      ≡ record {
        said = a.said;
        suite = a.suite;
        older = a.newer;
        newer = mint_of m at (width_of a.suite) (after_of a.newer.number 1) (a.newer.deadline + half);
      }
  unfolding rolled_of
  roll_one past live = simp (le-ltb t a.older.deadline past, lt-ltb t a.newer.deadline live)

  -- both are past: two generations, H and 2 H after the clock
  pub roll_two : a.older.deadline ≤ t → a.newer.deadline ≤ t → rolled_of half t m at a
      ≡ record {
        said = a.said;
        suite = a.suite;
        older = mint_of m at (width_of a.suite) (after_of a.newer.number 1) (t + half);
        newer = mint_of m (at + 32) (width_of a.suite) (after_of a.newer.number 2) (t + 2 * half);
      }
  unfolding rolled_of
  roll_two past over = simp (le-ltb t a.older.deadline past, le-ltb t a.newer.deadline over)

-- ---- the record follows the keys made
pub number_after : (g k : ℕ) → after_of (tek_number_of g) k ≡ tek_number_of (g + k)
number_after g k =
    let once : (g % 16 + k) % 16 ≡ (g + k) % 16 = omega arith in
    ap (λ (n : ℕ). record { 0 = n }) once

module _ (half t : ℕ) (m : List ℕ) (at : ℕ) where
  line_by : (b c : Bool) (l : Generations) → rolled_by b c half t m at (record_of l) ≡ record_of (with_all_made l (mints_by b c half t m at l))
  line_by true c l = refl
  line_by false true l =
      ap (λ (n : TekNumber). record { said = l.said; suite = l.suite; older = (record_of l).newer; newer = mint_of m at (width_of l.suite) n (l.newer.deadline + half) })
      (number_after l.newer.generation 1)
  line_by false false l = rw (number_after l.newer.generation 1, number_after l.newer.generation 2)

  pub roll_line : (l : Generations) → rolled_of half t m at (record_of l) ≡ record_of (generations_to half t m at l)
  unfolding rolled_of
  roll_line l = line_by (ltb t l.older.deadline) (ltb t l.newer.deadline) l

  pub fresh_line : (s : SaidSuite) → fresh_of half t m at s.said s.suite ≡ record_of (listed_generations half t m at s)
  unfolding fresh_of
  fresh_line s = refl

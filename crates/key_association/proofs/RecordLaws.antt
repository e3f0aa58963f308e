-- Laws of the limits of a record (`specs/Record.antt`): its tests, the facts that they say together, and that minting, listing
-- and the clock's rule stay within them.
use mathlib.Core.Path.{◌≡◌, refl}
use mathlib.Core.Bool.{Bool, true, false, and-false}
use Prim.Native.Nat.{ℕ, ◌+◌, ◌-◌, ◌*◌, ◌<◌, ◌≤◌}
use mathlib.Core.List.{List}
use native.Mathlib.Omega.{arith}
use lib.Dec.{ltb, eqb}
use borrow.Author.Tests.{le-ltb, lt-ltb, eq-eqb, ne_eqb, ltb-true, eqb-true}
use Rattle.key_traffic.specs.declared.numbers.TekNumber.{TekNumber}
use Rattle.key_traffic.specs.Numbers.{tek_in_range_of, after_of, tek_number_of}
use Rattle.key_traffic.specs.Suites.{suite_known_of, width_of}
use Rattle.key_traffic.specs.Traffic.{key_fits_of, follows}
use Rattle.questions.proofs.TestLaws.{sub_eqb, both}
use Rattle.questions.proofs.ListLaws.{IfLt, if_lt}
use Rattle.key_traffic.proofs.OctetsLaws.{octets_zero_past}
use Rattle.key_traffic.proofs.TrafficLaws.{after_in_range, next_follows}
use Rattle.key_association.specs.declared.record.Assoc.{Assoc}
use Rattle.key_association.specs.Mint.{mint_of}
use Rattle.key_association.specs.Roll.{rolled_by, rolled_of}
use Rattle.key_association.specs.Listing.{fresh_of}
use Rattle.key_traffic.specs.Addresses.{said_fits_of}
use Rattle.key_association.specs.Record.{deadlines_fit_of, record_fits_of, Near, Rollable}

-- ---- the tests of the deadlines, one by one
module _ (half clock older newer : ℕ) where
  pub deadlines_past : older ≤ clock → false ≡ deadlines_fit_of half clock older newer
  unfolding deadlines_fit_of
  deadlines_past past = simp (le-ltb clock older past)

  pub deadlines_crossed : newer < older → false ≡ deadlines_fit_of half clock older newer
  unfolding deadlines_fit_of
  deadlines_crossed crossed =
      let apart : eqb newer (older + half) ≡ false = ne_eqb newer (older + half) (λ e. omega (arith, e)) in
      simp (apart, and-false)

  pub deadlines_asked : clock < older → older ≤ newer → eqb (newer - older) half ≡ deadlines_fit_of half clock older newer
  unfolding deadlines_fit_of
  deadlines_asked ahead ordered = simp (lt-ltb clock older ahead, sub_eqb newer older half ordered)

-- ---- the limits as facts
pub record InLimits (half clock : ℕ) (a : Assoc) : Type 0 where
  pub said_fits : said_fits_of a.said ≡ true
  pub suite-known : suite_known_of a.suite ≡ true
  pub older_fits : key_fits_of (width_of a.suite) a.older ≡ true
  pub newer_fits : key_fits_of (width_of a.suite) a.newer ≡ true
  pub next : follows a.older a.newer ≡ true
  pub ahead : clock < a.older.deadline
  pub paced : a.newer.deadline ≡ a.older.deadline + half

pub limits_of : (half clock : ℕ) (a : Assoc) → record_fits_of half clock a ≡ true → InLimits half clock a
unfolding record_fits_of deadlines_fit_of
limits_of half clock a e =
    let s₅ = both _ _ e in
    let s₄ = both _ _ s₅.0 in
    let s₃ = both _ _ s₄.0 in
    let s₂ = both _ _ s₃.0 in
    let s₁ = both _ _ s₂.0 in
    let d = both _ _ s₅.1 in
    record {
      said_fits = s₁.0;
      suite-known = s₁.1;
      older_fits = s₂.1;
      newer_fits = s₃.1;
      next = s₄.1;
      ahead = ltb-true _ _ d.0;
      paced = eqb-true _ _ d.1;
    }

pub fits_by : (half clock : ℕ) (a : Assoc) → InLimits half clock a → record_fits_of half clock a ≡ true
unfolding record_fits_of deadlines_fit_of
fits_by half clock a i =
    simp (
      i.said_fits,
      i.suite-known,
      i.older_fits,
      i.newer_fits,
      i.next,
      lt-ltb clock a.older.deadline i.ahead,
      eq-eqb a.newer.deadline (a.older.deadline + half) i.paced,
    )

-- ---- minting, listing and the clock's rule stay within the limits
pub mint_fits : (m : List ℕ) (at w : ℕ) (n : TekNumber) (d : ℕ) → tek_in_range_of n ≡ true → key_fits_of w (mint_of m at w n d) ≡ true
unfolding key_fits_of
mint_fits m at w n d small = simp (small, octets_zero_past m at w, octets_zero_past m (at + 16) w)

module _ (half : ℕ) (m : List ℕ) (at : ℕ) (pos : 0 < half) where
  pub fresh_limits : (clock said suite : ℕ) → said_fits_of said ≡ true → suite_known_of suite ≡ true → InLimits half clock (fresh_of half clock m at said suite)
  unfolding fresh_of follows
  fresh_limits clock said suite said_fits suite-known =
      record {
        said_fits = said_fits;
        suite-known = suite-known;
        older_fits = mint_fits m at (width_of suite) (tek_number_of 0) (clock + half) refl;
        newer_fits = mint_fits m (at + 32) (width_of suite) (tek_number_of 1) (clock + 2 * half) refl;
        next = refl;
        ahead = omega arith;
        paced = omega arith;
      }

  module _ (clock t : ℕ) (on : clock ≤ t) (a : Assoc) (i : InLimits half clock a) where
    kept_by : (b c : Bool) → IfLt t a.older.deadline b → IfLt t a.newer.deadline c → InLimits half t (rolled_by b c half t m at a)
    unfolding follows
    kept_by true c live _ =
        record {
          said_fits = i.said_fits;
          suite-known = i.suite-known;
          older_fits = i.older_fits;
          newer_fits = i.newer_fits;
          next = i.next;
          ahead = live;
          paced = i.paced;
        }
    kept_by false true past live =
        record {
          said_fits = i.said_fits;
          suite-known = i.suite-known;
          older_fits = i.newer_fits;
          newer_fits = mint_fits m at (width_of a.suite) (after_of a.newer.number 1) (a.newer.deadline + half) (after_in_range a.newer.number 1);
          next = eq-eqb (after_of a.newer.number 1).0 (after_of a.newer.number 1).0 refl;
          ahead = live;
          paced = refl;
        }
    kept_by false false past over =
        record {
          said_fits = i.said_fits;
          suite-known = i.suite-known;
          older_fits = mint_fits m at (width_of a.suite) (after_of a.newer.number 1) (t + half) (after_in_range a.newer.number 1);
          newer_fits = mint_fits m (at + 32) (width_of a.suite) (after_of a.newer.number 2) (t + 2 * half) (after_in_range a.newer.number 2);
          next = next_follows a.newer.number 1;
          ahead = omega arith;
          paced = omega arith;
        }

    -- the clock's rule keeps a record within the limits, at the new clock
    pub roll_limits : InLimits half t (rolled_of half t m at a)
    unfolding rolled_of
    roll_limits = kept_by (ltb t a.older.deadline) (ltb t a.newer.deadline) (if_lt t a.older.deadline) (if_lt t a.newer.deadline)

-- ---- what the calls make is at most H ahead
pub fresh_near : (half clock : ℕ) (m : List ℕ) (at said suite : ℕ) → Near half clock (fresh_of half clock m at said suite)
unfolding fresh_of
fresh_near half clock m at said suite = omega arith

pub roll_near : (half clock t : ℕ) (m : List ℕ) (at : ℕ) (a : Assoc) → clock ≤ t → a.newer.deadline ≡ a.older.deadline + half
    → Near half clock a → Near half t (rolled_of half t m at a)
unfolding rolled_of
roll_near half clock t m at a on paced near = go (ltb t a.older.deadline) (ltb t a.newer.deadline) (if_lt t a.older.deadline)
  where
    go : (b c : Bool) → IfLt t a.older.deadline b → Near half t (rolled_by b c half t m at a)
    go true c live = omega (arith, near)
    go false true past = omega (arith, paced, past)
    go false false past = omega arith

-- the limits as a test
pub roll_fits : (half : ℕ) (m : List ℕ) (at clock t : ℕ) (a : Assoc) → 0 < half → clock ≤ t → record_fits_of half clock a ≡ true → record_fits_of half t (rolled_of half t m at a) ≡ true
roll_fits half m at clock t a pos on e = fits_by half t (rolled_of half t m at a) (roll_limits half m at pos clock t on a (limits_of half clock a e))

-- a record within the limits can be rolled
pub rollable : (half clock t : ℕ) (a : Assoc) → half ≤ 302400 → t ≤ 1000000000000 → record_fits_of half clock a ≡ true → Rollable half t a
rollable half clock t a small early e = record { half_small = small; clock_small = early; paced = (limits_of half clock a e).paced }

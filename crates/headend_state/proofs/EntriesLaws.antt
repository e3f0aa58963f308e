-- The entries in use, and a search by address: what is passed does not change what the rest says.
use mathlib.Core.Path.{◌≡◌, refl, sym, ◌∙◌, ap}
use mathlib.Core.Bool.{Bool, true, false, cond}
use mathlib.Core.List.{List, []}
use Prim.Native.Nat.{ℕ, zero, suc, ◌<◌, ◌≤◌}
use native.Mathlib.Omega.{arith}
use lib.Dec.{ltb, eqb}
use lib.ListN.{length, get_or, take, drop}
use lib.Seq.{length-take-le, take_all, drop-cons, drop-length, get_or-take}
use Rattle.std.specs.List.{HoldsAt, AllWithin}
use Rattle.questions.proofs.ListLaws.{IfLt, if_lt}
use Rattle.headend_state.specs.declared.state.Entry.{Entry}
use Rattle.headend_state.specs.Entries.{in_use_of, here_or, known_here_of, known_none_of, known_from}

-- ---- the first n of 16 entries are as many as `in_use_of` says
pub in_use_length : (n : ℕ) (es : List Entry) → length es ≡ 16 → length (take n es) ≡ in_use_of n
in_use_length n es long = go (ltb n 16) (if_lt n 16)
  where
    go : (t : Bool) → IfLt n 16 t → length (take n es) ≡ cond t n 16
    go true small = length-take-le n es (omega (arith, small, long))
    go false large = ap length (take_all n es (omega (arith, large, long))) ∙ long

pub in_use_within : (n i : ℕ) → i < in_use_of n → (i < n) × (i < 16)
in_use_within n i small = go (ltb n 16) (if_lt n 16) small
  where
    go : (t : Bool) → IfLt n 16 t → i < cond t n 16 → (i < n) × (i < 16)
    go true less h = (h, omega (arith, less))
    go false most h = (omega (arith, most), h)

-- ---- where all are passed
pub none_left : (es : List Entry) (i : ℕ) → i ≡ length es → drop i es ≡ []
none_left es i over = ap (λ (k : ℕ). drop k es) over ∙ drop-length es

-- ---- a search by address that passes the first i: none of them has it
module _ (es : List Entry) (address : ℕ) (d : Entry) where
  at_here : (i : ℕ) → i < length es
      → known_from address i (drop i es) ≡ here_or (eqb (get_or es i d).address address) i (get_or es i d) (known_from address (suc i) (drop (suc i) es))
  unfolding known_from
  at_here i less = ap (known_from address i) (drop-cons es i d less)

  known_passed : (i : ℕ) → i ≤ length es → ((k : ℕ) → k < i → eqb (get_or es k d).address address ≡ false) → known_from address i (drop i es) ≡ known_from address 0 es
  known_passed zero few miss = refl
  known_passed (suc i) few miss =
      let later : known_from address i (drop i es) ≡ known_from address (suc i) (drop (suc i) es) = at_here i (omega arith) ∙ simp (miss i (omega arith)) in
      sym later ∙ known_passed i (omega arith) (λ k less. miss k (omega arith))

  known_first : (i : ℕ) → i < length es → eqb (get_or es i d).address address ≡ true → ((k : ℕ) → k < i → eqb (get_or es k d).address address ≡ false)
      → known_here_of i (get_or es i d) ≡ known_from address 0 es
  known_first i less hit miss =
      let found : known_from address i (drop i es) ≡ known_here_of i (get_or es i d) = at_here i less ∙ simp hit in
      sym found ∙ known_passed i (omega arith) miss

  known_nowhere : ((k : ℕ) → k < length es → eqb (get_or es k d).address address ≡ false) → known_none_of (length es) ≡ known_from address 0 es
  unfolding known_from
  known_nowhere miss = sym (ap (known_from address (length es)) (none_left es (length es) refl)) ∙ known_passed (length es) (omega arith) miss

-- the same of the first n of 16, by what a search over them answers
module _ (n : ℕ) (es : List Entry) (long : length es ≡ 16) (address : ℕ) (d : Entry) where
  abbrev Misses : Entry → Type 0
  Misses e = eqb e.address address ≡ false

  abbrev Hits : Entry → Type 0
  Hits e = eqb e.address address ≡ true

  pub known_found : (i : ℕ) → (i < length (take n es)) × HoldsAt Hits (take n es) i × AllWithin Misses (take n es) 0 i
      → known_here_of i (get_or es i d) ≡ known_from address 0 (take n es)
  known_found i f =
      let small : i < in_use_of n = omega (arith, f.0, in_use_length n es long) in
      ap (known_here_of i) (sym (get_or-take n es i d (in_use_within n i small).0))
      ∙ known_first (take n es) address d i f.0 (f.1 d) (λ k less. f.2 k d (omega arith) less)

  pub known_missed : AllWithin Misses (take n es) 0 (length (take n es)) → known_none_of (in_use_of n) ≡ known_from address 0 (take n es)
  known_missed miss =
      ap known_none_of (sym (in_use_length n es long))
      ∙ known_nowhere (take n es) address d (λ k less. miss k d (omega arith) less)

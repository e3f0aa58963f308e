-- Tests of the entries in use, one by one: what is passed does not change what the rest says.
use mathlib.Core.Path.{◌≡◌, refl, sym, ◌∙◌, ap}
use mathlib.Core.Bool.{Bool, true, false, ◌&&◌}
use mathlib.Core.List.{List, [], ◌∷◌}
use Prim.Native.Nat.{ℕ, zero, suc, ◌+◌, ◌<◌}
use native.Mathlib.Omega.{arith}
use native.Mathlib.Numerals.{add-one}
use lib.ListN.{length, get_or, take, drop}
use lib.Seq.{take-suc, drop-cons}
use Rattle.std.specs.Bool.{MatchBool}
use Rattle.std.specs.List.{HoldsAt, AllWithin}
use Rattle.key_association.specs.declared.listing.Listing.{Listing}
use Rattle.headend_state.specs.declared.state.Entry.{Entry}
use Rattle.headend_limits.specs.Limits.{entry_fits_of, is_apart_of, all_apart_of, entries_from}
use Rattle.headend_state.proofs.EntriesLaws.{none_left}

false_after : (a : Bool) → false ≡ (a && false)
false_after true = refl
false_after false = refl

-- ---- limits, and apart from those before: the entry at a place, with `p` and `q` its two tests as the code has them
module _ (life clock : ℕ) (es : List Entry) (i : ℕ) (less : i < length es) (d : Entry) (passed : entries_from life clock (take i es) (drop i es) ≡ entries_from life clock [] es) (p q : Bool)
    (is-p : p ≡ entry_fits_of life clock (get_or es i d)) (is-q : q ≡ all_apart_of (get_or es i d).address (get_or es i d).listing (take i es)) where
  abbrev later_fit : Bool
  later_fit = entries_from life clock (take (i + 1) es) (drop (i + 1) es)

  entry_here : entries_from life clock (take i es) (drop i es) ≡ (p && q && later_fit)
  unfolding entries_from
  entry_here =
      ap (entries_from life clock (take i es)) (drop-cons es i d less)
      ∙ ap (λ (b : List Entry). entry_fits_of life clock (get_or es i d) && all_apart_of (get_or es i d).address (get_or es i d).listing (take i es) && entries_from life clock b (drop (suc i) es)) (sym (take-suc es i d less))
      ∙ ap (λ (k : ℕ). entry_fits_of life clock (get_or es i d) && all_apart_of (get_or es i d).address (get_or es i d).listing (take i es) && entries_from life clock (take k es) (drop k es)) (sym (add-one i))
      ∙ ap (λ (b : Bool). b && all_apart_of (get_or es i d).address (get_or es i d).listing (take i es) && later_fit) (sym is-p)
      ∙ ap (λ (b : Bool). p && b && later_fit) (sym is-q)

  pub entry_no : (p && q) ≡ false → false ≡ entries_from life clock [] es
  entry_no bad = sym (ap (λ (b : Bool). b && later_fit) bad) ∙ sym entry_here ∙ passed

  pub entry_yes : (p && q) ≡ true → later_fit ≡ entries_from life clock [] es
  entry_yes good = sym (ap (λ (b : Bool). b && later_fit) good) ∙ sym entry_here ∙ passed

-- ---- where all are passed
module _ (es : List Entry) (i : ℕ) (over : i ≡ length es) where
  pub entries_end : (life clock : ℕ) → entries_from life clock (take i es) (drop i es) ≡ entries_from life clock [] es → true ≡ entries_from life clock [] es
  unfolding entries_from
  entries_end life clock passed = sym (ap (entries_from life clock (take i es)) (none_left es i over)) ∙ passed

-- ---- a test of each, as an iterator asks it
module _ (address : ℕ) (l : Listing) where
  abbrev Apart : Entry → Type 0
  Apart e = is_apart_of address l e ≡ true

  abbrev Near : Entry → Type 0
  Near e = is_apart_of address l e ≡ false

  pub apart_of_each : (es : List Entry) (r : Bool) → MatchBool r (AllWithin Apart es 0 (length es)) ((k : ℕ) × (k < length es) × HoldsAt Near es k) → r ≡ all_apart_of address l es
  unfolding all_apart_of
  apart_of_each [] true h = refl
  apart_of_each [] false h = absurd (omega (arith, h.1))
  apart_of_each (e ∷ es) true h = rw (h 0 e (omega arith) (omega arith)) (apart_of_each es true (λ k d low less. h (suc k) d (omega arith) (omega (arith, less))))
  apart_of_each (e ∷ es) false h = go h.0 h.1 h.2 (λ f. apart_of_each es false f)
    where
      go : (k : ℕ) → k < length (e ∷ es) → HoldsAt Near (e ∷ es) k → (((j : ℕ) × (j < length es) × HoldsAt Near es j) → false ≡ all_apart_of address l es)
          → false ≡ (is_apart_of address l e && all_apart_of address l es)
      go zero less near more = rw (near e) refl
      go (suc k) less near more = rw (sym (more (k, omega (arith, less), near))) (false_after (is_apart_of address l e))

-- A search over records of which the first are the same: what is found among those is the same.
use mathlib.Core.Path.{◌≡◌, refl, sym, ◌∙◌, ap}
use mathlib.Core.Bool.{Bool, true, false, cond}
use mathlib.Core.List.{List, [], ◌∷◌}
use Prim.Native.Nat.{ℕ, zero, suc, ◌<◌, ◌≤◌}
use native.Mathlib.Omega.{arith}
use lib.Dec.{ltb}
use lib.ListN.{length, get_or, take}
use lib.Seq.{length-take-le, get_or-take}
use borrow.Author.Tests.{lt-ltb}
use Rattle.key_association.specs.declared.record.Assoc.{Assoc}
use Rattle.key_association.specs.declared.search.Probe.{Probe}
use Rattle.key_association.specs.Search.{hit_of, found_at_of, missed_at_of}
use Rattle.key_records.specs.Records.{none, first_by, first_of, lookup_of}

-- ---- a search that ends among the first n records needs no others
module _ (f : Assoc → Bool) where
  within : (n : ℕ) (xs : List Assoc) → first_by f xs < n → first_by f (take n xs) ≡ first_by f xs
  unfolding first_by
  within zero xs less = absurd (omega (arith, less))
  within (suc n) [] less = refl
  within (suc n) (x ∷ xs) less = go (f x) less (within n xs)
    where
      go : (b : Bool) → cond b 0 (suc (first_by f xs)) < suc n → (first_by f xs < n → first_by f (take n xs) ≡ first_by f xs)
          → cond b 0 (suc (first_by f (take n xs))) ≡ cond b 0 (suc (first_by f xs))
      go true q later = refl
      go false q later = ap suc (later (omega arith))

  beyond : (n : ℕ) (xs : List Assoc) → first_by f (take n xs) < length (take n xs) → first_by f xs ≡ first_by f (take n xs)
  unfolding first_by
  beyond zero xs less = absurd (omega (arith, less))
  beyond (suc n) [] less = refl
  beyond (suc n) (x ∷ xs) less = go (f x) less (beyond n xs)
    where
      go : (b : Bool) → cond b 0 (suc (first_by f (take n xs))) < suc (length (take n xs))
          → (first_by f (take n xs) < length (take n xs) → first_by f xs ≡ first_by f (take n xs))
          → cond b 0 (suc (first_by f xs)) ≡ cond b 0 (suc (first_by f (take n xs)))
      go true q later = refl
      go false q later = ap suc (later (omega arith))

  same_first : (n : ℕ) (xs ys : List Assoc) → take n ys ≡ take n xs → n ≤ length xs → first_by f xs < n → first_by f ys ≡ first_by f xs
  same_first n xs ys e long less =
      let here : first_by f (take n ys) ≡ first_by f xs = ap (first_by f) e ∙ within n xs less in
      let wide : length (take n ys) ≡ n = ap length e ∙ length-take-le n xs long in
      beyond n ys (omega (arith, here, wide)) ∙ here

-- ---- what is found
found-at : (p : Probe) (xs : List Assoc) → (lookup_of p xs).at ≡ first_of p xs
found-at p xs = go (ltb (first_of p xs) (length xs))
  where
    go : (b : Bool) → (cond b (found_at_of (first_of p xs) (get_or xs (first_of p xs) none)) (missed_at_of (first_of p xs))).at ≡ first_of p xs
    go true = refl
    go false = refl

found_held : (p : Probe) (xs : List Assoc) → first_of p xs < length xs → (lookup_of p xs).held ≡ get_or xs (first_of p xs) none
found_held p xs less = rw (lt-ltb (first_of p xs) (length xs) less)

-- where the first n records are the same, a record found among them is the same
pub same_found : (p : Probe) (n k : ℕ) (xs ys : List Assoc) → take n ys ≡ take n xs → n ≤ length xs → k ≤ length ys
    → (lookup_of p xs).at < n → (lookup_of p ys).at < k → (lookup_of p ys).held ≡ (lookup_of p xs).held
same_found p n k xs ys e long wide less small =
    let i = first_of p xs in
    let low : i < n = omega (arith, found-at p xs) in
    let there : first_of p ys < length ys = omega (arith, found-at p ys) in
    found_held p ys there
    ∙ ap (λ (j : ℕ). get_or ys j none) (same_first (hit_of p) n xs ys e long low)
    ∙ sym (get_or-take n ys i none low)
    ∙ ap (λ (zs : List Assoc). get_or zs i none) e
    ∙ get_or-take n xs i none low
    ∙ sym (found_held p xs (omega arith))

-- What holds of each member of a list, a list of four by its members, and the fact that a test's value tells: the forms that proofs by clauses take.
use mathlib.Core.Path.{◌≡◌, refl, sym, subst}
use mathlib.Core.Bool.{Bool, true, false, ◌&&◌, ◌||◌}
use mathlib.Core.Logic.{◌⊎◌, inl, inr}
use mathlib.Core.List.{List, [], ◌∷◌, ◌++◌, Memᴰ}
use Prim.Native.Nat.{ℕ, zero, suc, ◌≤◌, ◌<◌}
use native.Mathlib.Omega.{arith}
use lib.Dec.{ltb, leb}
use lib.ListN.{length, take}
use Rattle.std.specs.List.{list_any, list_all}
use borrow.Author.Tests.{ltb-true, ltb-false, lt-ltb, lt-leb}

module _ {A : Type 0} where
  -- P of each member
  abbrev pub Each : (A → Type 0) → List A → Type 0
  Each P l = (x : A) → Memᴰ x l → P x

  pub each_nil : (P : A → Type 0) → Each P []
  each_nil P x m = elim m [ ]

  pub each_cons : (P : A → Type 0) {a : A} {l : List A} → P a → Each P l → Each P (a ∷ l)
  each_cons P p ps x (Memᴰ.head e) = subst P (sym e) p
  each_cons P p ps x (Memᴰ.tail m) = ps x m

  -- a member of a list with one more at its end is of the list, or is that one
  pub snoc_cases : (l : List A) (a x : A) → Memᴰ x (l ++ (a ∷ [])) → Memᴰ x l ⊎ (x ≡ a)
  snoc_cases [] a x (Memᴰ.head e) = inr e
  snoc_cases [] a x (Memᴰ.tail m) = elim m [ ]
  snoc_cases (b ∷ l) a x (Memᴰ.head e) = inl (Memᴰ.head e)
  snoc_cases (b ∷ l) a x (Memᴰ.tail m) = under (snoc_cases l a x m)
    where
      under : Memᴰ x l ⊎ (x ≡ a) → Memᴰ x (b ∷ l) ⊎ (x ≡ a)
      under (inl k) = inl (Memᴰ.tail k)
      under (inr e) = inr e

  pub snoc_last : (l : List A) (a : A) → Memᴰ a (l ++ (a ∷ []))
  snoc_last [] a = Memᴰ.head refl
  snoc_last (b ∷ l) a = Memᴰ.tail (snoc_last l a)

  pub each_snoc : (P : A → Type 0) (l : List A) (a : A) → Each P l → P a → Each P (l ++ (a ∷ []))
  each_snoc P l a ps p x m = of (snoc_cases l a x m)
    where
      of : Memᴰ x l ⊎ (x ≡ a) → P x
      of (inl k) = ps x k
      of (inr e) = subst P (sym e) p

  -- a list of four
  pub of_four : (P : List A → Type 0) → ((a b c d : A) → P (a ∷ b ∷ c ∷ d ∷ [])) → (l : List A) → length l ≡ 4 → P l
  of_four P p [] h = absurd (omega arith)
  of_four P p (a ∷ []) h = absurd (omega arith)
  of_four P p (a ∷ b ∷ []) h = absurd (omega arith)
  of_four P p (a ∷ b ∷ c ∷ []) h = absurd (omega arith)
  of_four P p (a ∷ b ∷ c ∷ d ∷ []) h = p a b c d
  of_four P p (a ∷ b ∷ c ∷ d ∷ e ∷ l) h = absurd (omega arith)

-- The fact that `ltb a b` tells
abbrev pub IfLt : ℕ → ℕ → Bool → Type 0
IfLt a b true = a < b
IfLt a b false = b ≤ a

pub if_lt : (a b : ℕ) → IfLt a b (ltb a b)
if_lt a b = go (ltb a b) refl
  where
    go : (t : Bool) → ltb a b ≡ t → IfLt a b t
    go true e = ltb-true a b e
    go false e = ltb-false a b e

-- Whether one of the first n of four passes a test, and whether all of them do, place by place
one_of : (x y z w : Bool) → (x || (y || (z || (w || false)))) ≡ (x || y || z || w)
one_of true y z w = refl
one_of false true z w = refl
one_of false false true w = refl
one_of false false false true = refl
one_of false false false false = refl

each_of : (x y z w : Bool) → (x && (y && (z && (w && true)))) ≡ (x && y && z && w)
each_of false y z w = refl
each_of true false z w = refl
each_of true true false w = refl
each_of true true true true = refl
each_of true true true false = refl

module _ {A : Type 0} (p : A → Bool) where
  none_left : (n : ℕ) → take {A = A} n [] ≡ []
  none_left zero = refl
  none_left (suc n) = refl

  pub any_of_four : (n : ℕ) (a b c d : A) → list_any p (take n (a ∷ b ∷ c ∷ d ∷ [])) ≡ ((ltb 0 n && p a) || (ltb 1 n && p b) || (ltb 2 n && p c) || (ltb 3 n && p d))
  any_of_four zero a b c d = refl
  any_of_four (suc zero) a b c d = one_of (p a) false false false
  any_of_four (suc (suc zero)) a b c d = one_of (p a) (p b) false false
  any_of_four (suc (suc (suc zero))) a b c d = one_of (p a) (p b) (p c) false
  any_of_four (suc (suc (suc (suc n)))) a b c d =
      let m = suc (suc (suc (suc n))) in
      rw (none_left n, lt-ltb 0 m (omega arith), lt-ltb 1 m (omega arith), lt-ltb 2 m (omega arith), lt-ltb 3 m (omega arith)) (one_of (p a) (p b) (p c) (p d))

  pub all_of_four : (n : ℕ) (a b c d : A) → list_all p (take n (a ∷ b ∷ c ∷ d ∷ [])) ≡ ((leb n 0 || p a) && (leb n 1 || p b) && (leb n 2 || p c) && (leb n 3 || p d))
  all_of_four zero a b c d = refl
  all_of_four (suc zero) a b c d = each_of (p a) true true true
  all_of_four (suc (suc zero)) a b c d = each_of (p a) (p b) true true
  all_of_four (suc (suc (suc zero))) a b c d = each_of (p a) (p b) (p c) true
  all_of_four (suc (suc (suc (suc n)))) a b c d =
      let m = suc (suc (suc (suc n))) in
      rw (none_left n, lt-leb m 0 (omega arith), lt-leb m 1 (omega arith), lt-leb m 2 (omega arith), lt-leb m 3 (omega arith)) (each_of (p a) (p b) (p c) (p d))

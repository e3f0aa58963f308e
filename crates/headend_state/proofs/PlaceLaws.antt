-- A test of the first n of four places, asked by an iterator, is the test of each of the four that asks first whether the place is among the n.
use mathlib.Core.Path.{◌≡◌, refl, sym, ◌∙◌, ap}
use mathlib.Core.Bool.{Bool, true, false, ◌&&◌, ◌||◌}
use mathlib.Core.List.{List}
use Prim.Native.Nat.{ℕ, zero, suc, ◌<◌}
use native.Mathlib.Omega.{arith}
use lib.Dec.{leb, ltb}
use lib.ListN.{length, get_or, take}
use lib.Seq.{length-take-le, take_all, get_or-take}
use borrow.Author.Tests.{lt-ltb, le-leb, lt-leb}
use Rattle.std.specs.Bool.{MatchBool}
use Rattle.std.specs.List.{zip, HoldsAt, AllWithin}
use Rattle.std.proofs.lemmas.Slice.Zip.{get_or-zip, length-zip}
use Rattle.questions.proofs.ListLaws.{IfLt, if_lt}

pub by_four : (P : ℕ → Type 0) → P 0 → P 1 → P 2 → P 3 → (i : ℕ) → i < 4 → P i
by_four P p₀ p₁ p₂ p₃ zero h = p₀
by_four P p₀ p₁ p₂ p₃ (suc zero) h = p₁
by_four P p₀ p₁ p₂ p₃ (suc (suc zero)) h = p₂
by_four P p₀ p₁ p₂ p₃ (suc (suc (suc zero))) h = p₃
by_four P p₀ p₁ p₂ p₃ (suc (suc (suc (suc i)))) h = absurd (omega arith)

-- ---- four tests
or_true : (a : Bool) → a || true ≡ true
or_true true = refl
or_true false = refl

pub and_apart : (a b c : Bool) → (a && (b && c)) ≡ (a && b && c)
and_apart true b c = refl
and_apart false b c = refl

and_false : (a : Bool) → a && false ≡ false
and_false true = refl
and_false false = refl

module _ (t : ℕ → Bool) where
  pub some_of_four : (i : ℕ) → i < 4 → t i ≡ true → true ≡ (t 0 || t 1 || t 2 || t 3)
  some_of_four =
      by_four (λ i. t i ≡ true → true ≡ (t 0 || t 1 || t 2 || t 3))
      (λ e. rw e refl)
      (λ e. rw (e, or_true (t 0)) refl)
      (λ e. rw (e, or_true (t 0 || t 1)) refl)
      (λ e. rw (e, or_true (t 0 || t 1 || t 2)) refl)

  pub none_of_four : ((i : ℕ) → i < 4 → t i ≡ false) → false ≡ (t 0 || t 1 || t 2 || t 3)
  none_of_four f = rw (f 0 (omega arith), f 1 (omega arith), f 2 (omega arith), f 3 (omega arith)) refl

  pub not_all_four : (i : ℕ) → i < 4 → t i ≡ false → false ≡ (t 0 && t 1 && t 2 && t 3)
  not_all_four =
      by_four (λ i. t i ≡ false → false ≡ (t 0 && t 1 && t 2 && t 3))
      (λ e. rw e refl)
      (λ e. rw (e, and_false (t 0)) refl)
      (λ e. rw (e, and_false (t 0 && t 1)) refl)
      (λ e. rw (e, and_false (t 0 && t 1 && t 2)) refl)

  pub all_four : ((i : ℕ) → i < 4 → t i ≡ true) → true ≡ (t 0 && t 1 && t 2 && t 3)
  all_four f = rw (f 0 (omega arith), f 1 (omega arith), f 2 (omega arith), f 3 (omega arith)) refl

-- ---- the first n of four
module _ {X : Type 0} (zs : List X) (four : length zs ≡ 4) (n : ℕ) (d : X) (p : X → Bool) where
  inside : (k : ℕ) → k < length (take n zs) → (k < n) × (k < 4)
  inside k less = go (ltb n 4) (if_lt n 4)
    where
      go : (b : Bool) → IfLt n 4 b → (k < n) × (k < 4)
      go true few = let same : length (take n zs) ≡ n = length-take-le n zs (omega arith) in (omega arith, omega arith)
      go false many = let same : length (take n zs) ≡ length zs = ap length (take_all n zs (omega arith)) in (omega arith, omega arith)

  within : (k : ℕ) → k < n → k < 4 → k < length (take n zs)
  within k less few = go (ltb n 4) (if_lt n 4)
    where
      go : (b : Bool) → IfLt n 4 b → k < length (take n zs)
      go true q = let same : length (take n zs) ≡ n = length-take-le n zs (omega arith) in omega arith
      go false q = let same : length (take n zs) ≡ length zs = ap length (take_all n zs (omega arith)) in omega arith

  at_place : (k : ℕ) (b : Bool) → k < n → p (get_or (take n zs) k d) ≡ b → p (get_or zs k d) ≡ b
  at_place k b less e = ap p (sym (get_or-take n zs k d less)) ∙ e

  -- ---- one of them
  abbrev some_at : ℕ → Bool
  some_at i = ltb i n && p (get_or zs i d)

  pub any_taken : (r : Bool) → MatchBool r ((k : ℕ) × (k < length (take n zs)) × HoldsAt (λ x. p x ≡ true) (take n zs) k) (AllWithin (λ x. p x ≡ false) (take n zs) 0 (length (take n zs)))
      → r ≡ (some_at 0 || some_at 1 || some_at 2 || some_at 3)
  any_taken true h =
      let i = inside h.0 h.1 in
      let hit : some_at h.0 ≡ true = rw (lt-ltb h.0 n i.0) (at_place h.0 true i.0 (h.2 d)) in
      some_of_four some_at h.0 i.1 hit
  any_taken false h = none_of_four some_at (λ k few. go k few (ltb k n) (if_lt k n))
    where
      go : (k : ℕ) → k < 4 → (b : Bool) → IfLt k n b → (b && p (get_or zs k d)) ≡ false
      go k few true less = at_place k false less (h k d (omega arith) (within k less few))
      go k few false past = refl

  -- ---- each of them
  abbrev each_at : ℕ → Bool
  each_at i = leb n i || p (get_or zs i d)

  pub all_taken : (r : Bool) → MatchBool r (AllWithin (λ x. p x ≡ true) (take n zs) 0 (length (take n zs))) ((k : ℕ) × (k < length (take n zs)) × HoldsAt (λ x. p x ≡ false) (take n zs) k)
      → r ≡ (each_at 0 && each_at 1 && each_at 2 && each_at 3)
  all_taken true h = all_four each_at (λ k few. go k few (ltb k n) (if_lt k n))
    where
      go : (k : ℕ) → k < 4 → (b : Bool) → IfLt k n b → each_at k ≡ true
      go k few true less = rw (lt-leb n k less) (at_place k true less (h k d (omega arith) (within k less few)))
      go k few false past = rw (le-leb n k past) refl
  all_taken false h =
      let i = inside h.0 h.1 in
      let miss : each_at h.0 ≡ false = rw (lt-leb n h.0 i.0) (at_place h.0 false i.0 (h.2 d)) in
      not_all_four each_at h.0 i.1 miss

-- ---- two lists side by side
module _ (xs ys : List ℕ) (xs-four : length xs ≡ 4) (ys-four : length ys ≡ 4) (n : ℕ) (p : ℕ × ℕ → Bool) where
  four : length (zip xs ys) ≡ 4
  four = omega (arith, length-zip xs ys)

  pair : (i : ℕ) → i < 4 → get_or (zip xs ys) i (0, 0) ≡ (get_or xs i 0, get_or ys i 0)
  pair i few = get_or-zip xs ys i (0, 0) (omega arith) (omega arith)

  abbrev some_pair : ℕ → Bool
  some_pair i = ltb i n && p (get_or xs i 0, get_or ys i 0)

  pub any_pair : (r : Bool)
      → MatchBool r ((k : ℕ) × (k < length (take n (zip xs ys))) × HoldsAt (λ x. p x ≡ true) (take n (zip xs ys)) k) (AllWithin (λ x. p x ≡ false) (take n (zip xs ys)) 0 (length (take n (zip xs ys))))
      → r ≡ (some_pair 0 || some_pair 1 || some_pair 2 || some_pair 3)
  any_pair r h = rw (sym (pair 0 (omega arith)), sym (pair 1 (omega arith)), sym (pair 2 (omega arith)), sym (pair 3 (omega arith))) (any_taken (zip xs ys) four n (0, 0) p r h)

  abbrev each_pair : ℕ → Bool
  each_pair i = leb n i || p (get_or xs i 0, get_or ys i 0)

  pub all_pairs : (r : Bool)
      → MatchBool r (AllWithin (λ x. p x ≡ true) (take n (zip xs ys)) 0 (length (take n (zip xs ys)))) ((k : ℕ) × (k < length (take n (zip xs ys))) × HoldsAt (λ x. p x ≡ false) (take n (zip xs ys)) k)
      → r ≡ (each_pair 0 && each_pair 1 && each_pair 2 && each_pair 3)
  all_pairs r h = rw (sym (pair 0 (omega arith)), sym (pair 1 (omega arith)), sym (pair 2 (omega arith)), sym (pair 3 (omega arith))) (all_taken (zip xs ys) four n (0, 0) p r h)

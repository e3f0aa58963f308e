-- A rule for every octet, proved by one test that antt computes.
use mathlib.Core.Path.{◌≡◌, refl, subst, ap₂}
use mathlib.Core.Bool.{Bool, true, false, not}
use mathlib.Core.List.{List, [], ◌∷◌}
use Prim.Native.Nat.{ℕ, zero, suc, ◌<◌, ◌≤◌}
use native.Mathlib.Nat.{not-suc-le-zero}
use native.Mathlib.Omega.{arith}
use lib.Dec.{T, eqb, ltb, eqb→eq, ltb→lt, nltb→le}

abbrev pub both : Bool → Bool → Bool
both true b = b
both false b = false

both_left : (a b : Bool) → T (both a b) → T a
both_left true b t = tt
both_left false b t = t

both_right : (a b : Bool) → T (both a b) → T b
both_right true b t = t
both_right false b t = absurd t

-- what a test of two numbers tells
abbrev pub IfLt : ℕ → ℕ → Bool → Type 0
IfLt a b true = a < b
IfLt a b false = b ≤ a

pub if_lt : (a b : ℕ) → IfLt a b (ltb a b)
if_lt a b = go (ltb a b) (λ t. ltb→lt a b t) (λ t. nltb→le a b t)
  where
    go : (t : Bool) → (T t → a < b) → (T (not t) → b ≤ a) → IfLt a b t
    go true p q = p tt
    go false p q = q tt

-- the test f passes at each number below n
abbrev pub all : (ℕ → Bool) → ℕ → Bool
all f zero = true
all f (suc n) = both (f n) (all f n)

pub at : (f : ℕ → Bool) (n : ℕ) → T (all f n) → (k : ℕ) → k < n → T (f k)
at f zero t k h = absurd (not-suc-le-zero h)
at f (suc n) t k h = go (at f n (both_right (f n) (all f n) t) k) (ltb k n) (if_lt k n)
  where
    go : (k < n → T (f k)) → (b : Bool) → IfLt k n b → T (f k)
    go lower true l = lower l
    go lower false l =
        let e : n ≡ k = omega arith in
        subst (λ (m : ℕ). T (f m)) e (both_left (f n) (all f n) t)

-- two lists are equal
abbrev pub same : List ℕ → List ℕ → Bool
same [] [] = true
same [] (y ∷ t) = false
same (x ∷ s) [] = false
same (x ∷ s) (y ∷ t) = both (eqb x y) (same s t)

pub same→eq : (s t : List ℕ) → T (same s t) → s ≡ t
same→eq [] [] h = refl
same→eq [] (y ∷ t) h = absurd h
same→eq (x ∷ s) [] h = absurd h
same→eq (x ∷ s) (y ∷ t) h =
    ap₂ (λ (a : ℕ) (l : List ℕ). a ∷ l) (eqb→eq x y (both_left (eqb x y) (same s t) h)) (same→eq s t (both_right (eqb x y) (same s t) h))

-- Tests: put without a sum that could wrap, and taken apart.
use mathlib.Core.Path.{◌≡◌, refl, sym}
use mathlib.Core.Bool.{Bool, true, false, ◌&&◌, ◌||◌}
use mathlib.Core.Logic.{◌⊎◌, inl, inr}
use Prim.Native.Nat.{ℕ, ◌+◌, ◌-◌, ◌≤◌}
use native.Mathlib.Omega.{arith}
use lib.Dec.{leb, eqb}
use borrow.Author.Tests.{leb-true, leb-false, le-leb, lt-leb, eqb-true, eqb-false, eq-eqb, ne_eqb}

pub sub_leb : (a b k : ℕ) → b ≤ a → leb (a - b) k ≡ leb a (b + k)
sub_leb a b k less = go (leb a (b + k)) refl
  where
    go : (t : Bool) → leb a (b + k) ≡ t → leb (a - b) k ≡ t
    go true e = le-leb (a - b) k (omega (arith, leb-true a (b + k) e))
    go false e = lt-leb (a - b) k (omega (arith, leb-false a (b + k) e))

pub sub_eqb : (a b k : ℕ) → b ≤ a → eqb (a - b) k ≡ eqb a (b + k)
sub_eqb a b k less = go (eqb a (b + k)) refl
  where
    go : (t : Bool) → eqb a (b + k) ≡ t → eqb (a - b) k ≡ t
    go true e = eq-eqb (a - b) k (omega (arith, eqb-true a (b + k) e))
    go false e = ne_eqb (a - b) k (λ q. eqb-false a (b + k) e (omega (arith, q)))

pub le_sum : (a b k : ℕ) → a ≤ b → leb a (b + k) ≡ true
le_sum a b k less = le-leb a (b + k) (omega arith)

-- two tests that hold together each hold
pub both : (a b : Bool) → (a && b) ≡ true → (a ≡ true) × (b ≡ true)
both true b e = (refl, e)
both false b e = let z : ◌≡◌ {A = ℕ} 0 1 = cc in absurd (omega arith)

-- of two tests of which one holds, one holds
pub either : (a b : Bool) → (a || b) ≡ true → (a ≡ true) ⊎ (b ≡ true)
either true b e = inl refl
either false b e = inr e

-- two tests that each hold where the other does are the same
pub same_test : (a b : Bool) → (a ≡ true → b ≡ true) → (b ≡ true → a ≡ true) → a ≡ b
same_test true b f g = sym (f refl)
same_test false true f g = g refl
same_test false false f g = refl

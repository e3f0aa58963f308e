-- The comparison that collects the differing bits of each octet, and that it is equality.
use mathlib.Core.Path.{◌≡◌, refl}
use mathlib.Core.Bool.{Bool, true, false, ◌&&◌}
use mathlib.Core.List.{List, [], ◌∷◌}
use Prim.Native.Nat.{ℕ}
use native.Mathlib.Omega.{arith}
use borrow.Author.Tests.{eq-eqb, ne_eqb, eqb-true, eqb-false}
use lib.Bits.{bit_xor, xor_self}
use lib.Dec.{eqb}
use lib.ListN.{length}
use Rattle.digest_hmac.specs.Hmac.{same, Collects}

-- the step of the comparison as tests
collects_test : (d x y r : ℕ) → Collects d x y r → eqb r 0 ≡ eqb d 0 && eqb x y
collects_test d x y r (only, also) = go (eqb d 0) (eqb x y) refl refl
  where
    go : (p q : Bool) → eqb d 0 ≡ p → eqb x y ≡ q → eqb r 0 ≡ p && q
    go true true a b = eq-eqb r 0 (also (eqb-true d 0 a) (eqb-true x y b))
    go true false a b = ne_eqb r 0 (λ e. eqb-false x y b (only e).1)
    go false q a b = ne_eqb r 0 (λ e. eqb-false d 0 a (only e).0)

pub xor_equal : (x y : ℕ) → x ≡ y → bit_xor x y ≡ 0
xor_equal x y e = rw (e, xor_self)

false_true : false ≡ true → ⊥
false_true e = let z : ◌≡◌ {A = ℕ} 0 1 = cc in omega arith

and-true : (p : Bool) → p && true ≡ p
and-true true = refl
and-true false = refl

and_assoc : (p q r : Bool) → (p && q) && r ≡ p && (q && r)
and_assoc true q r = refl
and_assoc false q r = refl

-- one more octet compared: d, and what is left of both lists, decide as r, and what is left behind x and y
pub same_step : (d x y r : ℕ) (a b : List ℕ) → Collects d x y r → eqb r 0 && same a b ≡ eqb d 0 && same (x ∷ a) (y ∷ b)
unfolding same
same_step d x y r a b e = rw (collects_test d x y r e, and_assoc)

-- nothing is left of both
pub same_end : (p : Bool) (a b : List ℕ) → length a ≡ length b → length a ≡ 0 → p && same a b ≡ p
unfolding same
same_end p [] [] e z = and-true p
same_end p [] (y ∷ b) e z = absurd (omega arith)
same_end p (x ∷ a) b e z = absurd (omega arith)

-- `same` is equality: it is true of equal lists, and of no others
pub same_refl : (a : List ℕ) → same a a ≡ true
unfolding same
same_refl [] = refl
same_refl (x ∷ a) = rw (eq-eqb x x refl) (same_refl a)

pub same_equal : (a b : List ℕ) → same a b ≡ true → a ≡ b
unfolding same
same_equal [] [] e = refl
same_equal [] (y ∷ b) e = absurd (false_true e)
same_equal (x ∷ a) [] e = absurd (false_true e)
same_equal (x ∷ a) (y ∷ b) e = go (eqb x y) refl e (same_equal a b)
  where
    go : (p : Bool) → eqb x y ≡ p → p && same a b ≡ true → (same a b ≡ true → a ≡ b) → x ∷ a ≡ y ∷ b
    go true q h r = let t = eqb-true x y q in let u = r h in cc
    go false q h r = absurd (false_true h)

-- Tests and Booleans.
use Prim.Native.Nat.{ℕ}
use mathlib.Core.Path.{◌≡◌, refl, sym}
use mathlib.Core.Bool.{Bool, true, false, ◌&&◌}
use lib.Dec.{eqb}
use borrow.Author.Tests.{eq-eqb, ne_eqb, eqb-true, eqb-false}

pub and_swap : (a b c : Bool) → a && (b && c) ≡ b && (a && c)
and_swap true true c = refl
and_swap true false c = refl
and_swap false true c = refl
and_swap false false c = refl

pub eqb_sym : (a b : ℕ) → eqb a b ≡ eqb b a
eqb_sym a b = go (eqb b a) refl
  where
    go : (t : Bool) → eqb b a ≡ t → eqb a b ≡ t
    go true e = eq-eqb a b (sym (eqb-true b a e))
    go false e = ne_eqb a b (λ q. eqb-false b a e (sym q))

-- tests joined from the left, as code writes them, and from the right, as a list is searched
pub and_three : (a b c : Bool) → a && b && c ≡ a && (b && (c && true))
and_three true true true = refl
and_three true true false = refl
and_three true false c = refl
and_three false b c = refl

pub and_four : (a b c d : Bool) → a && b && c && d ≡ a && (b && (c && (d && true)))
and_four true true true true = refl
and_four true true true false = refl
and_four true true false d = refl
and_four true false c d = refl
and_four false b c d = refl

pub and_pairs : (a b c d : Bool) → a && b && (c && d) ≡ a && b && c && d
and_pairs true true c d = refl
and_pairs true false c d = refl
and_pairs false b c d = refl

-- `headend_steps::listing::is_material` meets its contract.
use mathlib.Core.Path.{◌≡◌, refl}
use mathlib.Core.Bool.{Bool, true, false, ◌&&◌}
use Prim.Native.Nat.{ℕ, ◌*◌, ◌/◌, ◌%◌}
use native.Mathlib.Omega.{arith}
use lib.Dec.{eqb}
use borrow.Author.Tests.{eqb-true, eqb-false, eq-eqb, ne_eqb}
use Rattle.headend_steps.proofs.listing.is_material.Goals as goal

-- 64 times a number, by its quotient and its remainder
by_parts : (octets count : ℕ) → (eqb (octets % 64) 0 && eqb (octets / 64) count) ≡ eqb octets (count * 64)
by_parts octets count = go (eqb (octets % 64) 0) (eqb (octets / 64) count) refl refl
  where
    go : (a b : Bool) → eqb (octets % 64) 0 ≡ a → eqb (octets / 64) count ≡ b → (a && b) ≡ eqb octets (count * 64)
    go true true e f = let same : octets ≡ count * 64 = omega (arith, eqb-true (octets % 64) 0 e, eqb-true (octets / 64) count f) in rw (eq-eqb octets (count * 64) same)
    go true false e f = rw (ne_eqb octets (count * 64) (λ q. eqb-false (octets / 64) count f (omega (arith, q))))
    go false b e f = rw (ne_eqb octets (count * 64) (λ q. eqb-false (octets % 64) 0 e (omega (arith, q))))

pub returns : goal.returns
returns c = by_parts c.args.octets c.args.count

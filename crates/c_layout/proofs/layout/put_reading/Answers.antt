-- `c_layout::layout::put_reading` meets its contract.
use Prim.Native.Nat.{ℕ}
use mathlib.Core.Path.{ap}
use mathlib.Core.List.{[], ◌∷◌}
use Rattle.key_traffic.proofs.StoreLaws.{then_put, put_as}
use Rattle.c_layout.specs.Layout.{reading_octets}
use native.Mathlib.Omega.{arith}
use Rattle.c_layout.proofs.layout.put_reading.Goals as goal

pub returns : goal.returns
unfolding reading_octets
returns c = let last = put_as (ap (λ (n : ℕ). n ∷ []) c.holds_octet.ensures) c.put_octets.ensures in
    record { put = then_put c.put_fields-a.ensures.put (then_put c.put_place-b.ensures.put (then_put c.put_place-c.ensures.put last)); value = omega arith }

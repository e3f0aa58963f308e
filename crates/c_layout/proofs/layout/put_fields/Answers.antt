-- `c_layout::layout::put_fields` meets its contract.
use Rattle.key_traffic.proofs.StoreLaws.{then_put}
use Rattle.c_layout.specs.Layout.{fields_octets}
use native.Mathlib.Omega.{arith}
use Rattle.c_layout.proofs.layout.put_fields.Goals as goal

pub returns : goal.returns
unfolding fields_octets
returns c = record { put = then_put c.put_head-a.ensures.put (then_put c.put_descriptors-b.ensures.put (then_put c.put_params-c.ensures.put c.put_params.ensures.put)); value = omega arith }

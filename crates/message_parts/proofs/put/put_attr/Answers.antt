-- `message_parts::put::put_attr` meets its contract.
use mathlib.Core.Path.{refl}
use native.Mathlib.Omega.{arith}
use Rattle.message_parts.proofs.Stores.{then_value}
use Rattle.message_parts.proofs.put.put_attr.Goals as goal

pub returns : goal.returns
returns c = record { wrote = then_value refl c.put_head-value.ensures.0 c.put_head-value.ensures.1 c.put_octets.ensures.stored refl; value = omega arith }

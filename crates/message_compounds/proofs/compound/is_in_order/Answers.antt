-- `message_compounds::compound::is_in_order` meets its contract.
use mathlib.Core.Path.{refl}
use Rattle.message_compounds.specs.Compounds.{in_order_value}
use Rattle.message_compounds.proofs.compound.is_in_order.Goals as goal

pub returns : goal.returns
unfolding in_order_value
returns c = simp (c.eq.ensures, c.tek_after.ensures) refl

-- `message_holders::inside::inside_start` meets its contract.
use mathlib.Core.Path.{refl}
use Rattle.message_holders.proofs.inside.inside_start.Goals as goal

pub returns : goal.returns
returns c = (rw c.no_slot-none.ensures refl, refl)

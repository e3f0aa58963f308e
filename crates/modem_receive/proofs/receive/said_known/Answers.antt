-- `modem_receive::receive::said_known` meets its contract.
use Rattle.modem_receive.specs.Receive.{said_known_of}
use mathlib.Core.Path.{refl}
use Rattle.modem_receive.proofs.receive.said_known.Goals as goal

pub returns : goal.returns
unfolding said_known_of
returns c = simp (c.is_of_said.ensures, c.slot_of_said.ensures.0) refl

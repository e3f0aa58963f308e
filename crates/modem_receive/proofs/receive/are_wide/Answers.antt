-- `modem_receive::receive::are_wide` meets its contract.
use mathlib.Core.Path.{refl}
use Rattle.modem_receive.proofs.receive.are_wide.Goals as goal

pub returns : goal.returns
returns c = refl

-- `modem_frames::rules::can_seal` meets its contract.
use mathlib.Core.Path.{refl}
use Rattle.modem_frames.proofs.rules.can_seal.Goals as goal

pub returns : goal.returns
returns c = refl

-- `alone` meets its contract.
use Rattle.std.proofs.Common.{refl}
use Rattle.replay_read.proofs.kept.alone.Goals as goal

pub returns : goal.returns
returns c = refl

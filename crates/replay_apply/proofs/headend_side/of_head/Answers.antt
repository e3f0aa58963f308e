-- `replay_apply::headend_side::of_head` meets its contract.
use Rattle.replay_apply.proofs.ApplyLaws.{quiet_numbered}
use Rattle.replay_apply.proofs.headend_side.of_head.Goals as goal

pub returns : goal.returns
returns c = quiet_numbered _ _ _ _ _ _ _ c.quiet.ensures c.answer_number.ensures

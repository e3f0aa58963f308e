-- `replay_apply::modem_side::of_modem` meets its contract.
use Rattle.replay_apply.proofs.ApplyLaws.{quiet_numbered}
use Rattle.replay_apply.proofs.modem_side.of_modem.Goals as goal

pub returns : goal.returns
returns c = quiet_numbered _ _ _ _ _ _ _ c.quiet.ensures c.answer_number.ensures

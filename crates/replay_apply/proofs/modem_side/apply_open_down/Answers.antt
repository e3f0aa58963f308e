-- `replay_apply::modem_side::apply_open_down` meets its contract.
use Rattle.replay_apply.proofs.ApplyLaws.{open_down_applied}
use Rattle.replay_apply.proofs.modem_side.apply_open_down.Goals as goal

pub returns : goal.returns
returns c = (open_down_applied c.args.e _ _ _ _ _ _ _ _ _ c.open-r.result c.answer_number.ensures c.open-r.ensures.0, c.open-r.ensures.1, c.open-r.ensures.2, c.open-r.ensures.3)

-- `replay_apply::headend_side::apply_open_up` meets its contract.
use Rattle.replay_apply.proofs.ApplyLaws.{open_up_applied}
use Rattle.replay_apply.proofs.headend_side.apply_open_up.Goals as goal

pub returns : goal.returns
returns c = (open_up_applied c.args.e _ _ _ _ _ _ _ _ _ c.open_held-r.result c.answer_number.ensures c.open_held-r.ensures.0, c.open_held-r.ensures.1, c.open_held-r.ensures.2, c.open_held-r.ensures.3)

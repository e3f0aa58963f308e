-- `replay_apply::headend_side::apply_seal_down` meets its contract.
use Rattle.replay_apply.proofs.ApplyLaws.{seal_down_applied}
use Rattle.replay_apply.proofs.headend_side.apply_seal_down.Goals as goal

pub returns : goal.returns
returns c = (seal_down_applied c.args.e _ _ _ _ _ c.seal_held-r.result c.answer_number.ensures c.seal_held-r.ensures.0, c.seal_held-r.ensures.1, c.seal_held-r.ensures.2)

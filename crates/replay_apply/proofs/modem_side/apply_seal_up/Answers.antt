-- `replay_apply::modem_side::apply_seal_up` meets its contract.
use Rattle.replay_apply.proofs.ApplyLaws.{seal_up_applied}
use Rattle.replay_apply.proofs.modem_side.apply_seal_up.Goals as goal

pub returns : goal.returns
returns c = (seal_up_applied c.args.e _ _ _ _ c.seal-r.result c.answer_number.ensures c.seal-r.ensures.0, c.seal-r.ensures.1, c.seal-r.ensures.2)

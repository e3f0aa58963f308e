-- `replay_apply::modem_side::apply_down` meets its contract.
use Rattle.replay_apply.proofs.ApplyLaws.{down_applied}
use Rattle.replay_apply.proofs.modem_side.apply_down.Goals as goal

pub returns : goal.returns
returns c = (down_applied c.args.e _ _ _ _ c.receive-r.result _ c.of_modem.ensures c.receive-r.ensures.0, c.receive-r.ensures.1)

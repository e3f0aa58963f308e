-- `replay_apply::modem_side::apply_established` meets its contract.
use Rattle.replay_apply.proofs.ApplyLaws.{established_applied}
use Rattle.replay_apply.proofs.modem_side.apply_established.Goals as goal

pub returns : goal.returns
returns c = (established_applied c.args.e _ c.established-c.result _ c.of_modem.ensures c.established-c.ensures.0, c.established-c.ensures.1)

-- `replay_apply::modem_side::apply_reauth` meets its contract.
use Rattle.replay_apply.proofs.ApplyLaws.{reauth_applied}
use Rattle.replay_apply.proofs.modem_side.apply_reauth.Goals as goal

pub returns : goal.returns
returns c = (reauth_applied c.args.e _ c.reauth-c.result _ c.of_modem.ensures c.reauth-c.ensures.0, c.reauth-c.ensures.1)

-- `replay_apply::headend_side::apply_up` meets its contract.
use lib.ListN.{length}
use Rattle.replay_apply.proofs.ApplyLaws.{up_applied}
use Rattle.replay_apply.proofs.headend_side.apply_up.Goals as goal

pub returns : goal.returns
returns c = let x = c.args in
    (up_applied x.e x.c.address x.read.now x.write.now x.octets.now x.auth.now (length x.out.now) c.receive_held-r.result _ c.of_head.ensures c.receive_held-r.ensures.0, c.receive_held-r.ensures.1)

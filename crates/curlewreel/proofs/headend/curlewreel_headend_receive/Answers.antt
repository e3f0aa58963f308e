-- `curlewreel::headend::curlewreel_headend_receive` meets its contract.
use Rattle.curlewreel.proofs.HeadEndCallLaws.{head_handed}
use Rattle.curlewreel.proofs.headend.curlewreel_headend_receive.Goals as goal

pub returns : goal.returns
returns c = (head_handed _ _ _ c.headend_call.ensures c.receive-c.ensures.0, c.receive-c.ensures.1)

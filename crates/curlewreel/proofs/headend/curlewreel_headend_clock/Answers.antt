-- `curlewreel::headend::curlewreel_headend_clock` meets its contract.
use Rattle.curlewreel.proofs.HeadEndCallLaws.{head_handed}
use Rattle.curlewreel.proofs.headend.curlewreel_headend_clock.Goals as goal

pub returns : goal.returns
returns c = (head_handed _ _ _ c.headend_call.ensures c.clock-c.ensures.0, c.clock-c.ensures.1)

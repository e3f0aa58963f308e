-- `curlewreel::headend::curlewreel_headend_list` meets its contract.
use Rattle.curlewreel.proofs.HeadEndCallLaws.{head_handed}
use Rattle.curlewreel.proofs.headend.curlewreel_headend_list.Goals as goal

pub returns : goal.returns
returns c = (head_handed _ _ _ c.headend_call.ensures c.list-c.ensures.0, c.list-c.ensures.1)

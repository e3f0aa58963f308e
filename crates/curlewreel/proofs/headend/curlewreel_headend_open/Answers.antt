-- `curlewreel::headend::curlewreel_headend_open` meets its contract.
use Rattle.curlewreel.proofs.HeadEndCallLaws.{head_opened_as}
use Rattle.curlewreel.proofs.headend.curlewreel_headend_open.Goals as goal

pub returns : goal.returns
returns c =
    let made = c.open-c in
    (head_opened_as _ _ _ c.headend_opening.ensures made.ensures.0, made.ensures.1, made.ensures.2, made.ensures.3)

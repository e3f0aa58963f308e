-- `curlewreel::headend::curlewreel_headend_open_frame` meets its contract.
use Rattle.curlewreel.proofs.HeadEndCallLaws.{head_opened_as}
use Rattle.curlewreel.proofs.headend.curlewreel_headend_open_frame.Goals as goal

pub returns : goal.returns
returns c =
    let made = c.open_frame-c in
    (head_opened_as _ _ _ c.headend_opening.ensures made.ensures.0, made.ensures.1, made.ensures.2)

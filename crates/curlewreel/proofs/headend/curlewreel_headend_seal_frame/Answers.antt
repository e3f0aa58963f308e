-- `curlewreel::headend::curlewreel_headend_seal_frame` meets its contract.
use Rattle.curlewreel.proofs.ModemCallLaws.{sealed_as}
use Rattle.curlewreel.proofs.headend.curlewreel_headend_seal_frame.Goals as goal

pub returns : goal.returns
returns c = (sealed_as _ _ _ c.frame_sealed.ensures c.seal_frame-c.ensures.0, c.seal_frame-c.ensures.1)

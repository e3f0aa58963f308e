-- `curlewreel::headend::curlewreel_headend_seal` meets its contract.
use Rattle.curlewreel.proofs.ModemCallLaws.{sealed_as}
use Rattle.curlewreel.proofs.headend.curlewreel_headend_seal.Goals as goal

pub returns : goal.returns
returns c = (sealed_as _ _ _ c.frame_sealed.ensures c.seal-c.ensures.0, c.seal-c.ensures.1, c.seal-c.ensures.2)

-- `curlewreel::modem::curlewreel_modem_seal` meets its contract.
use Rattle.curlewreel.proofs.ModemCallLaws.{sealed_as}
use Rattle.curlewreel.proofs.modem.curlewreel_modem_seal.Goals as goal

pub returns : goal.returns
returns c = (sealed_as _ _ _ c.frame_sealed.ensures c.seal-c.ensures.0, c.seal-c.ensures.1, c.seal-c.ensures.2)

-- `curlewreel::modem::curlewreel_modem_established` meets its contract.
use Rattle.curlewreel.proofs.ModemCallLaws.{handed}
use Rattle.curlewreel.proofs.modem.curlewreel_modem_established.Goals as goal

pub returns : goal.returns
returns c = (handed _ _ _ c.modem_call.ensures c.established-c.ensures.0, c.established-c.ensures.1)

-- `curlewreel::modem::curlewreel_modem_reauth` meets its contract.
use Rattle.curlewreel.proofs.ModemCallLaws.{handed}
use Rattle.curlewreel.proofs.modem.curlewreel_modem_reauth.Goals as goal

pub returns : goal.returns
returns c = (handed _ _ _ c.modem_call.ensures c.reauth-c.ensures.0, c.reauth-c.ensures.1)

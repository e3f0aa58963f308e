-- `curlewreel::modem::curlewreel_modem_new` meets its contract.
use Rattle.curlewreel.proofs.ModemCallLaws.{handed}
use Rattle.curlewreel.proofs.modem.curlewreel_modem_new.Goals as goal

pub returns : goal.returns
returns c = handed _ _ _ c.modem_call.ensures c.new-c.ensures

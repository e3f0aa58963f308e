-- `curlewreel::modem::curlewreel_modem_receive` meets its contract.
use Rattle.curlewreel.proofs.ModemCallLaws.{handed}
use Rattle.curlewreel.proofs.modem.curlewreel_modem_receive.Goals as goal

pub returns : goal.returns
returns c = (handed _ _ _ c.modem_call.ensures c.receive-c.ensures.0, c.receive-c.ensures.1)

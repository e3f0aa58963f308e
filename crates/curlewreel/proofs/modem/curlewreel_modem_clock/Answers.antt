-- `curlewreel::modem::curlewreel_modem_clock` meets its contract.
use Rattle.curlewreel.proofs.ModemCallLaws.{handed}
use Rattle.curlewreel.proofs.modem.curlewreel_modem_clock.Goals as goal

pub returns : goal.returns
returns c = (handed _ _ _ c.modem_call.ensures c.clock-c.ensures.0, c.clock-c.ensures.1)

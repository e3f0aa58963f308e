-- `curlewreel::modem::curlewreel_modem_open` meets its contract.
use Rattle.curlewreel.proofs.ModemCallLaws.{opened_as}
use Rattle.curlewreel.proofs.modem.curlewreel_modem_open.Goals as goal

pub returns : goal.returns
returns c = (opened_as _ _ _ c.modem_opening.ensures c.open-c.ensures.0, c.open-c.ensures.1, c.open-c.ensures.2, c.open-c.ensures.3)

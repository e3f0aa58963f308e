-- `curlewreel::modem::curlewreel_modem_open_frame` meets its contract.
use Rattle.curlewreel.proofs.ModemCallLaws.{opened_as}
use Rattle.curlewreel.proofs.modem.curlewreel_modem_open_frame.Goals as goal

pub returns : goal.returns
returns c = (opened_as _ _ _ c.modem_opening.ensures c.open_frame-c.ensures.0, c.open_frame-c.ensures.1, c.open_frame-c.ensures.2)

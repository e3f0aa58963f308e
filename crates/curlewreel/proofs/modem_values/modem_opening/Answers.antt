-- `curlewreel::modem_values::modem_opening` meets its contract.
use Rattle.curlewreel.proofs.ModemCallLaws.{opened}
use Rattle.curlewreel.proofs.modem_values.modem_opening.Goals as goal

pub returns : goal.returns
returns c = opened c.args.c _ c.answer_number.ensures

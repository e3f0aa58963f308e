-- `curlewreel::modem_values::modem_call` meets its contract.
use Rattle.curlewreel.proofs.ModemCallLaws.{numbered}
use Rattle.curlewreel.proofs.modem_values.modem_call.Goals as goal

pub returns : goal.returns
returns c = numbered c.args.c _ c.answer_number.ensures

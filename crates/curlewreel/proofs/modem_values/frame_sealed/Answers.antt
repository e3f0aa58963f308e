-- `curlewreel::modem_values::frame_sealed` meets its contract.
use Rattle.curlewreel.proofs.ModemCallLaws.{sealed}
use Rattle.curlewreel.proofs.modem_values.frame_sealed.Goals as goal

pub returns : goal.returns
returns c = sealed c.args.c _ c.answer_number.ensures

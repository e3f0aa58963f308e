-- `curlewreel::headend_values::headend_opening` meets its contract.
use Rattle.curlewreel.proofs.HeadEndCallLaws.{head_opened}
use Rattle.curlewreel.proofs.headend_values.headend_opening.Goals as goal

pub returns : goal.returns
returns c = head_opened c.args.c _ c.answer_number.ensures

-- `curlewreel::headend_values::headend_call` meets its contract.
use Rattle.curlewreel.proofs.HeadEndCallLaws.{head_numbered}
use Rattle.curlewreel.proofs.headend_values.headend_call.Goals as goal

pub returns : goal.returns
returns c = head_numbered c.args.c _ c.answer_number.ensures

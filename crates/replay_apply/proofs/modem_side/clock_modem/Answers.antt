-- `replay_apply::modem_side::clock_modem` meets its contract.
use Rattle.replay_apply.proofs.ApplyLaws.{clock_refused, clock_done}
use Rattle.questions.specs.Refusal.{answer_number_of, is_done_of}
use mathlib.Core.Path.{sym, ◌∙◌, ap}
use Rattle.replay_apply.proofs.modem_side.clock_modem.Goals as goal

pub returns-in-Err : goal.returns-in-Err
returns-in-Err c = (clock_refused c.args.e _ _ c.clock-c.result _ _ _ c.refused.ensures (c.from.ensures ∙ sym (ap answer_number_of c.in-Err.is)) c.clock-c.ensures.0 (ap is_done_of c.in-Err.is), c.clock-c.ensures.1)

pub returns-in-Ok : goal.returns-in-Ok
returns-in-Ok c = (clock_done c.args.e _ _ c.clock-c.result _ _ c.of_modem.ensures c.clock-c.ensures.0 (ap is_done_of c.in-Ok.is), c.clock-c.ensures.1)

-- `replay_apply::clock::apply_clock` meets its contract.
use Rattle.replay_apply.proofs.ApplyLaws.{clock_answered, clock_head_refused, clock_both}
use Rattle.questions.specs.Answer.{Answer}
use Rattle.questions.specs.Refusal.{answer_number_of, is_done_of}
use mathlib.Core.Path.{sym, ◌∙◌, ap}
use Rattle.replay_apply.specs.declared.held.Changed.{Changed}
use lib.ListN.{length}
use Rattle.replay_apply.proofs.clock.apply_clock.Goals as goal

pub returns-in-Err : goal.returns-in-Err
returns-in-Err c = let x = c.args in
    clock_head_refused x.e x.c.second x.octets.now x.write.now (length x.out.now) c.clock_held-r.result.called _ _ _ _ _
    c.refused.ensures c.earlier_number.ensures (c.from.ensures ∙ sym (ap answer_number_of c.in-Err.is))
    (c.answer_number.ensures ∙ ap answer_number_of (c.clock_answer-other.ensures ∙ clock_answered x.e.modem x.c.second x.write.now (length x.out.now)))
    (ap (λ (y : Changed). y.called) c.clock_held-r.ensures) (ap is_done_of c.in-Err.is)

pub returns-in-Ok : goal.returns-in-Ok
returns-in-Ok c = clock_both c.args.e c.args.c.second c.args.octets.now c.args.write.now (length c.args.out.now) c.clock_held-r.result.called c.clock_held-r.result.records _ _ _ c.clock_modem.ensures.0 c.clock_modem.ensures.1 (ap (λ (y : Changed). y.called) c.clock_held-r.ensures) (ap (λ (y : Changed). y.records) c.clock_held-r.ensures) (ap is_done_of c.in-Ok.is)

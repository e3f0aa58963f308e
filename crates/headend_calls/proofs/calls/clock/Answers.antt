-- `headend_calls::calls::clock` meets its contract: where the answer is Ok, what `roll` asks holds.
use Rattle.std.proofs.Common.{ℕ, length, sym, ◌∙◌, ap, subst}
use Rattle.questions.specs.Refusal.{answer_number_of}
use Rattle.key_association.specs.declared.search.Probe.{Probe}
use Rattle.key_records.specs.Records.{first_of, RollFit}
use Rattle.headend_state.specs.declared.state.Called.{Called}
use Rattle.headend_steps.specs.Clock.{clock_called_of}
use Rattle.headend_calls.proofs.CallsLaws.{ok_number, clock_fit}
use Rattle.headend_calls.proofs.calls.clock.Goals as goal

pub roll-requires : goal.roll-requires
roll-requires c =
    let a = c.args in
    let xs = a.records.now in
    let len = length a.material.now in
    let bad = c.first-bad.ensures ∙ ap (λ (p : Probe). first_of p xs) c.out_of_limits.ensures in
    let called = c.clock_called-called.ensures ∙ ap (λ (b : ℕ). clock_called_of a.h a.t b (length xs) len) bad in
    let done = ap (λ (r : Called). answer_number_of r.answer) (sym called) ∙ ok_number _ (sym c.is_ok.ensures.value ∙ c.if-is_ok.true) in
    subst (λ (half : ℕ). RollFit a.h.used half a.t xs len) (sym c.half_in.ensures) (clock_fit a.h xs a.t a.material.now done)

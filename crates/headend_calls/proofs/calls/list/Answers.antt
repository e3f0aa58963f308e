-- `headend_calls::calls::list` meets its contract: where the answer is Ok, what `store` asks holds.
use Rattle.std.proofs.Common.{ℕ, length, sym, ◌∙◌, ap, subst}
use Rattle.questions.specs.Refusal.{answer_number_of}
use Rattle.key_association.specs.declared.search.Probe.{Probe}
use Rattle.key_records.specs.Records.{first_of, StoreFit}
use Rattle.headend_state.specs.declared.state.Called.{Called}
use Rattle.headend_limits.specs.Search.{out_of_limits_of}
use Rattle.headend_steps.specs.Listing.{list_called_of}
use Rattle.headend_calls.proofs.CallsLaws.{ok_number, list_fit}
use Rattle.headend_calls.proofs.calls.list.Goals as goal

pub store-requires : goal.store-requires
store-requires c =
    let a = c.args in
    let xs = a.records.now in
    let len = length a.material.now in
    let bad = c.first-bad.ensures ∙ ap (λ (p : Probe). first_of p xs) c.out_of_limits.ensures in
    let clash = c.first-clash.ensures ∙ ap (λ (p : Probe). first_of p xs) c.one_of.ensures in
    let called = c.list_called-called.ensures
    ∙ ap (λ (b : ℕ). list_called_of a.h a.address a.allowed a.l b c.first-clash.result (length xs) len) bad
    ∙ ap (λ (b : ℕ). list_called_of a.h a.address a.allowed a.l (first_of (out_of_limits_of a.h) xs) b (length xs) len) clash in
    let done = ap (λ (r : Called). answer_number_of r.answer) (sym called) ∙ ok_number _ (sym c.is_ok.ensures.value ∙ c.if-is_ok.true) in
    subst (λ (half : ℕ). StoreFit a.h.used a.l.count half a.h.clock (length xs) len) (sym c.half_in.ensures)
    (list_fit a.h xs a.address a.allowed a.l a.material.now done)

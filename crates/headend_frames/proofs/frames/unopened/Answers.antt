-- `headend_frames::frames::unopened` meets its contract.
use mathlib.Core.Bool.{false}
use mathlib.Core.Path.{◌≡◌, ◌∙◌, refl, ap}
use lib.Dec.{eqb}
use borrow.Author.Rules.{rules}
use Rattle.questions.specs.Answer.{Refused}
use Rattle.questions.specs.Refusal.{number_of}
use Rattle.headend_frames.specs.FrameQuestions.{counted_by_of}
use Rattle.headend_frames.proofs.frames.unopened.Goals as goal

-- refused with 13: the frame is counted, and what is sent is written
pub returns-in-NoKeyForFrame : goal.returns-in-NoKeyForFrame
returns-in-NoKeyForFrame c =
    let x = c.args in
    let counted : c.counted-state.result ≡ counted_by_of (number_of x.no) x.h = c.counted-state.ensures ∙ ap (λ n. counted_by_of n x.h) c.from.ensures in
    let call : c.opened_call.result ≡ record { answer = Refused x.no; state = c.counted-state.result; width = 0; count = c.put_invalid-count.result } = c.opened_call.ensures in
    (call ∙ rw (counted, c.put_invalid-count.ensures.0, c.in-NoKeyForFrame.is) refl, c.put_invalid-count.ensures.1 ∙ rw c.in-NoKeyForFrame.is refl)

-- with another number: what is counted goes by it, and nothing is sent
pub returns-in_default : goal.returns-in_default
returns-in_default c =
    let x = c.args in
    let counted : c.counted-state.result ≡ counted_by_of (number_of x.no) x.h = c.counted-state.ensures ∙ ap (λ n. counted_by_of n x.h) c.from.ensures in
    let call : c.opened_call-in_default.result ≡ record { answer = Refused x.no; state = c.counted-state.result; width = 0; count = 0 } = c.opened_call-in_default.ensures in
    let other : eqb (number_of x.no) 13 ≡ false = search rules in
    (call ∙ rw (counted, other) refl, rw other refl)

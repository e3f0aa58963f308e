-- `frame_octets::framed::frame_answer` meets its contract: the lengths (2) are asked before the 12 octets (15), and those before the SAID (10).
use mathlib.Core.Path.{ap, ◌∙◌}
use Rattle.std.specs.Prelude.{Err}
use Rattle.std.proofs.lemmas.Result.{err_from_is_err_and}
use Rattle.questions.specs.declared.refusal.Refusal.TheVariants.{WrongLength, ShortFrame}
use Rattle.frame_octets.proofs.FramedLaws.{asked_yes, asked_no, refused_2, refused_15}
use Rattle.frame_octets.proofs.framed.frame_answer.Goals as goal

pub returns-in_err-ask-2 : goal.returns-in_err-ask-2
returns-in_err-ask-2 c = let a = c.args in
    let q = asked_no a.q2 WrongLength _ c.in_err-ask-2.ensures in
    let p = err_from_is_err_and c.from_residual-in_err-ask-2.result c.from_residual-in_err-ask-2.ensures.1 in
    p.1 ∙ ap Err (p.2 ∙ q.1) ∙ refused_2 a.q1 a.q2 a.q15 a.q10 a.later (asked_yes _ _ c.in_ok-ask.ensures) q.0

pub returns-in_err-ask-3 : goal.returns-in_err-ask-3
returns-in_err-ask-3 c = let a = c.args in
    let q = asked_no a.q15 ShortFrame _ c.in_err-ask-3.ensures in
    let p = err_from_is_err_and c.from_residual-in_err-ask-3.result c.from_residual-in_err-ask-3.ensures.1 in
    p.1 ∙ ap Err (p.2 ∙ q.1)
    ∙ refused_15 a.q1 a.q2 a.q15 a.q10 a.later (asked_yes _ _ c.in_ok-ask.ensures) (asked_yes _ _ c.in_ok-ask-2.ensures) q.0

-- `headend_frames::frames::put_invalid` meets its contract.
use mathlib.Core.List.{List, []}
use mathlib.Core.Path.{sym, ◌∙◌, ap, subst}
use Prim.Native.Nat.{ℕ, ◌≤◌, ◌<◌}
use native.Mathlib.Omega.{arith}
use lib.ListN.{length}
use Rattle.key_traffic.specs.declared.numbers.AkNumber.{AkNumber}
use Rattle.key_traffic.specs.Octets.{overlay}
use Rattle.message_rules.specs.declared.fields.Fields.{Fields}
use Rattle.headend_steps.specs.Receive.{Writable}
use Rattle.headend_answers.specs.AnswerFields.{error_answer_of}
use Rattle.headend_frames.proofs.FrameCallLaws.{tek_invalid_writable, none_invalid, one_invalid}
use Rattle.headend_frames.proofs.frames.put_invalid.Goals as goal

pub returns-then-keys-h : goal.returns-then-keys-h
returns-then-keys-h c = let x = c.args in
    let k = c.entry_of in
    let past : k.result.entry.keys.newer ≤ x.h.clock = omega (arith, c.if-keys-h.true) in
    let none = sym (none_invalid x.h k.result _ k.ensures x.said x.write_key.now past) in
    (ap (λ (o : List ℕ). length o) none, ap (overlay x.out.now) none)

pub put_answer-requires : goal.put_answer-requires
put_answer-requires c = let x = c.args in
    let k = c.entry_of.result in
    let same = c.error_answer-fields.ensures ∙ ap (λ (n : AkNumber). error_answer_of 11 0 n x.said 4) c.newest.ensures in
    subst (λ (f : Fields). Writable f [] x.write_key.now (length x.out.now)) (sym same) (tek_invalid_writable k x.said x.write_key.now (length x.out.now) c.requires.0 c.requires.1 c.requires.2)

pub returns : goal.returns
returns c = let x = c.args in
    let k = c.entry_of in
    let same = c.error_answer-fields.ensures ∙ ap (λ (n : AkNumber). error_answer_of 11 0 n x.said 4) c.newest.ensures in
    let on : x.h.clock < k.result.entry.keys.newer = omega (arith, c.if-keys-h.false) in
    let all = one_invalid x.h k.result _ k.ensures x.said x.write_key.now on _ same in
    (c.put_answer.ensures.0 ∙ ap (λ (o : List ℕ). length o) all, c.put_answer.ensures.1 ∙ ap (overlay x.out.now) all)

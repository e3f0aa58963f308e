-- `headend_steps::receive::put_answer` meets its contract.
use borrow.Author.Tests.{eq-eqb, ne_eqb}
use mathlib.Core.Path.{◌∙◌}
use Rattle.message_digest.proofs.CountLaws.{count_of}
use Rattle.headend_steps.proofs.PutLaws.{none_put, answer_put}
use Rattle.headend_steps.proofs.receive.put_answer.Goals as goal

pub returns-then-f-eq-CODE_NONE : goal.returns-then-f-eq-CODE_NONE
returns-then-f-eq-CODE_NONE c = let x = c.args in
    none_put x.f x.auth.now x.write_key.now x.out.now (eq-eqb _ _ c.if-f-eq-CODE_NONE.true)

pub returns-else-f-eq-CODE_NONE : goal.returns-else-f-eq-CODE_NONE
returns-else-f-eq-CODE_NONE c = let x = c.args in
    let count = c.unwrap_or.ensures ∙ count_of x.f x.auth.now x.write_key.now _ c.write.result c.write.ensures.0 in
    answer_put x.f x.auth.now x.write_key.now x.out.now c.requires (ne_eqb _ _ c.if-f-eq-CODE_NONE.false) c.unwrap_or.result _ count c.write.ensures.1

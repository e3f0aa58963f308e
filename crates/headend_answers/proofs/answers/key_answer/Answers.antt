-- `headend_answers::answers::key_answer` meets its contract.
use mathlib.Core.Path.{refl, sym}
use Rattle.headend_answers.specs.Answers.{key_answer_of}
use Rattle.headend_answers.proofs.answers.key_answer.Goals as goal

pub returns-then-not-is_active : goal.returns-then-not-is_active
unfolding key_answer_of
returns-then-not-is_active c = rw (c.invalid-then-not-is_active.ensures, c.if-not-k.false, sym c.is_active.ensures, c.if-not-is_active.true) refl

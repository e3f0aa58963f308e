-- `headend_answers::fields::key_reply` meets its contract.
use mathlib.Core.Path.{refl}
use Rattle.headend_answers.proofs.fields.key_reply.Goals as goal

pub returns : goal.returns
returns c = rw (c.bare.ensures, c.params_at-2.ensures, c.params_at.ensures, c.width-w.ensures.0) refl

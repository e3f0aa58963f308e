-- `headend_answers::fields::params_at` meets its contract.
use mathlib.Core.Path.{refl}
use Rattle.headend_answers.proofs.fields.params_at.Goals as goal

pub returns : goal.returns
returns c = rw c.difference.ensures refl

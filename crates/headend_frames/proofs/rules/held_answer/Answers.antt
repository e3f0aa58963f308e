-- `headend_frames::rules::held_answer` meets its contract.
use mathlib.Core.Path.{refl}
use Rattle.headend_frames.proofs.rules.held_answer.Goals as goal

pub returns : goal.returns
returns c = rw (c.ask.ensures, c.opening_number.ensures, c.decide.ensures.0) refl

-- `headend_steps::receive::record_suits` meets its contract.
use mathlib.Core.Path.{refl}
use Rattle.headend_steps.specs.Receive.{record_suits_of}
use Rattle.headend_steps.proofs.receive.record_suits.Goals as goal

pub returns : goal.returns
unfolding record_suits_of
returns c = rw (c.found_suits.ensures, c.key_answer-answer.ensures) refl

-- `message_writer::limits::pair_fit` meets its contract.
use mathlib.Core.Path.{refl}
use Rattle.message_rules.specs.Limits.{pair_fit_of}
use Rattle.message_writer.proofs.limits.pair_fit.Goals as goal

pub returns : goal.returns
unfolding pair_fit_of
returns c = simp (c.params_fit.ensures, c.params_fit-2.ensures, c.eq.ensures, c.tek_after.ensures) refl

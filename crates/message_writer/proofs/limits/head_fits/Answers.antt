-- `message_writer::limits::head_fits` meets its contract.
use mathlib.Core.Path.{refl}
use Rattle.message_rules.specs.Limits.{head_fits_of}
use Rattle.message_writer.proofs.limits.head_fits.Goals as goal

pub returns : goal.returns
unfolding head_fits_of
returns c = refl

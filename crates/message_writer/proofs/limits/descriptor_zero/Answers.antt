-- `message_writer::limits::descriptor_zero` meets its contract.
use mathlib.Core.Path.{refl}
use Rattle.message_rules.specs.Limits.{descriptor_zero_of}
use Rattle.message_writer.proofs.limits.descriptor_zero.Goals as goal

pub returns : goal.returns
unfolding descriptor_zero_of
returns c = refl

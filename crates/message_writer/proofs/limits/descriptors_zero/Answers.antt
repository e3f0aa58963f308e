-- `message_writer::limits::descriptors_zero` meets its contract.
use Rattle.message_rules.specs.Limits.{descriptors_zero_of}
use Rattle.message_writer.proofs.limits.descriptors_zero.Goals as goal

pub returns : goal.returns
unfolding descriptors_zero_of
returns c = simp (
  c.place_fit-4.ensures,
  c.place_fit-3.ensures,
  c.place_fit-2.ensures,
  c.place_fit.ensures,
)

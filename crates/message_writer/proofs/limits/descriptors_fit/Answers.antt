-- `message_writer::limits::descriptors_fit` meets its contract.
use Rattle.message_rules.specs.Limits.{descriptors_fit_of}
use Rattle.message_writer.proofs.limits.descriptors_fit.Goals as goal

pub returns : goal.returns
unfolding descriptors_fit_of
returns c = simp (
  c.saids_differ.ensures,
  c.place_fit-4.ensures,
  c.place_fit-3.ensures,
  c.place_fit-2.ensures,
  c.place_fit.ensures,
)

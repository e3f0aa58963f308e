-- `message_writer::limits::descriptor_fit` meets its contract.
use Rattle.message_rules.specs.Limits.{descriptor_fit_of}
use Rattle.message_writer.proofs.limits.descriptor_fit.Goals as goal

pub returns : goal.returns
unfolding descriptor_fit_of
returns c = simp c.suite_known.ensures

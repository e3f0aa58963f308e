-- `message_writer::limits::params_fit` meets its contract.
use Rattle.message_rules.specs.Limits.{params_fit_of}
use Rattle.message_writer.proofs.limits.params_fit.Goals as goal

pub returns : goal.returns
unfolding params_fit_of
returns c = simp (c.key_octets_fit-2.ensures, c.key_octets_fit.ensures, c.tek_in_range.ensures)

-- `message_writer::limits::key_octets_fit` meets its contract.
use Rattle.message_rules.specs.Limits.{key_octets_fit_of}
use Rattle.message_writer.proofs.limits.key_octets_fit.Goals as goal

pub returns : goal.returns
unfolding key_octets_fit_of
returns c = simp (c.zero_past.ensures, c.width_known.ensures)

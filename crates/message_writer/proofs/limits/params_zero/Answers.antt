-- `message_writer::limits::params_zero` meets its contract.
use Rattle.message_rules.specs.Limits.{params_zero_of}
use Rattle.message_writer.proofs.limits.params_zero.Goals as goal

pub returns : goal.returns
unfolding params_zero_of
returns c = simp (c.key_octets_zero-2.ensures, c.key_octets_zero.ensures)

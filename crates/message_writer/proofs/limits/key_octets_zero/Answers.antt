-- `message_writer::limits::key_octets_zero` meets its contract.
use Rattle.message_rules.specs.Limits.{key_octets_zero_of}
use Rattle.message_writer.proofs.limits.key_octets_zero.Goals as goal

pub returns : goal.returns
unfolding key_octets_zero_of
returns c = simp c.zero_past.ensures

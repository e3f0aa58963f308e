-- `message_attributes::octets::be32_of` meets its contract.
use Rattle.message_rules.specs.Attributes.{be32}
use Rattle.message_attributes.proofs.octets.be32_of.Goals as goal

pub returns : goal.returns
unfolding be32
returns c = cc

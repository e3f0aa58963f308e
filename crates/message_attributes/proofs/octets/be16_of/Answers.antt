-- `message_attributes::octets::be16_of` meets its contract.
use Rattle.message_rules.specs.Attributes.{be16}
use Rattle.message_attributes.proofs.octets.be16_of.Goals as goal

pub returns : goal.returns
unfolding be16
returns c = cc

-- `message_reader::read::is_whole` meets its contract.
use Rattle.message_rules.specs.Messages.{is_whole}
use Rattle.message_reader.proofs.read.is_whole.Goals as goal

pub returns : goal.returns
unfolding is_whole
returns c = cc c.length_of-n.ensures.0

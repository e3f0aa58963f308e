-- `message_reader::read::read` meets its contract.
use mathlib.Core.Path.{◌∙◌}
use Rattle.message_reader.proofs.ReadLaws.{handed_read}
use Rattle.message_reader.proofs.read.read.Goals as goal

pub returns : goal.returns
returns c = c.handed.ensures ∙ handed_read c.args.s.now c.args.e c.asked.result c.asked.ensures

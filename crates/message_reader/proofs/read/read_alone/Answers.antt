-- `message_reader::read::read_alone` meets its contract.
use mathlib.Core.Path.{◌∙◌}
use Rattle.message_reader.proofs.ReadLaws.{handed_reader}
use Rattle.message_reader.proofs.read.read_alone.Goals as goal

pub returns : goal.returns
returns c = c.handed.ensures ∙ handed_reader c.args.s.now c.args.e c.asked_alone.result c.asked_alone.ensures

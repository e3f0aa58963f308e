-- `message_parts::put::four_octets` meets its contract.
use mathlib.Core.Path.{◌∙◌}
use Rattle.message_parts.proofs.PartLaws.{four_lower}
use Rattle.message_parts.proofs.put.four_octets.Goals as goal

pub returns : goal.returns
returns c = c.to_be_bytes.ensures ∙ four_lower c.args.n

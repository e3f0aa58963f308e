-- `message_parts::put::two_octets` meets its contract.
use mathlib.Core.Path.{◌∙◌}
use Rattle.message_parts.proofs.PartLaws.{two_lower}
use Rattle.message_parts.proofs.put.two_octets.Goals as goal

pub returns : goal.returns
returns c = c.to_be_bytes.ensures ∙ two_lower c.args.n

-- `message_reader::read::is_identifier_allowed` meets its contract.
use mathlib.Core.Path.{refl}
use Rattle.message_reader.proofs.read.is_identifier_allowed.Goals as goal

pub returns : goal.returns
returns c = refl

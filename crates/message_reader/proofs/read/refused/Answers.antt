-- `message_reader::read::refused` meets its contract.

use Rattle.message_reader.proofs.read.refused.Goals as goal

pub returns : goal.returns
returns c = rw (c.no_descriptors.ensures, c.no_params.ensures, c.no_params-2.ensures)

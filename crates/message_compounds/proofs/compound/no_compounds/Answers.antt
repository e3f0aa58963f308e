-- `message_compounds::compound::no_compounds` meets its contract.

use Rattle.message_compounds.proofs.compound.no_compounds.Goals as goal

pub returns : goal.returns
returns c = rw (c.no_descriptors.ensures, c.no_params.ensures, c.no_params-2.ensures)

-- `key_association::mint::mint` meets its contract.

use Rattle.key_association.proofs.mint.mint.Goals as goal

pub returns : goal.returns
returns c = c.key_from.ensures

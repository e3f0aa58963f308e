-- `key_association::search::missed_at` meets its contract.

use Rattle.key_association.proofs.search.missed_at.Goals as goal

pub returns : goal.returns
returns c = simp c.no_key-key.ensures

-- `message_compounds::compound::are_four_complete` meets its contract.
use mathlib.Core.Path.{refl}
use mathlib.Core.Bool.{and_assoc}
use Rattle.message_compounds.specs.Compounds.{four_complete}
use Rattle.message_compounds.proofs.compound.are_four_complete.Goals as goal

pub returns : goal.returns
unfolding four_complete
returns c = simp (c.all_apart.ensures, and_assoc) refl

-- `modem_tek::parts::pair_of` meets its contract.
use mathlib.Core.Path.{refl}
use Rattle.modem_tek.proofs.parts.pair_of.Goals as goal

pub returns : goal.returns
returns c = simp (c.key_of.ensures, c.key_of-2.ensures) refl

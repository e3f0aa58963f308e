-- `modem_tek::tek::Tek::identifier_after` meets its contract.
use mathlib.Core.Path.{refl}
use Rattle.modem_tek.specs.Tek.{identifier_after_of}
use Rattle.modem_tek.proofs.tek.Tek.identifier_after.Goals as goal

pub returns : goal.returns
unfolding identifier_after_of
returns c = rw (c.next_if.ensures, c.is_new.ensures) refl

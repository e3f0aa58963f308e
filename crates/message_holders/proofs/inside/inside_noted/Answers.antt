-- `message_holders::inside::inside_noted` meets its contract.
use mathlib.Core.Path.{◌≡◌, refl}
use native.Mathlib.Omega.{arith}
use Rattle.message_holders.proofs.inside.inside_noted.Goals as goal

pub returns-in-0 : goal.returns-in-0
returns-in-0 c = (rw (c.in-0.is, c.noted.ensures) refl, refl)

pub returns-in-1 : goal.returns-in-1
returns-in-1 c = (rw (c.in-1.is, c.noted-in-1.ensures) refl, refl)

pub returns-in-2 : goal.returns-in-2
returns-in-2 c = (rw (c.in-2.is, c.noted-in-2.ensures) refl, refl)

pub returns-in_default : goal.returns-in_default
returns-in_default c = let last : c.args.i ≡ 3 = omega arith in (rw (last, c.noted-in_default.ensures) refl, refl)

-- `message_holders::body::body_noted` meets its contract.
use mathlib.Core.Path.{◌≡◌, refl}
use native.Mathlib.Omega.{arith}
use Rattle.message_holders.proofs.body.body_noted.Goals as goal

pub returns-in-0 : goal.returns-in-0
returns-in-0 c = (rw (c.in-0.is, c.noted.ensures) refl, refl)

pub returns-in-1 : goal.returns-in-1
returns-in-1 c = (rw (c.in-1.is, c.noted-in-1.ensures) refl, refl)

pub returns-in-2 : goal.returns-in-2
returns-in-2 c = (rw (c.in-2.is, c.noted-in-2.ensures) refl, refl)

pub returns-in-3 : goal.returns-in-3
returns-in-3 c = (rw (c.in-3.is, c.noted-in-3.ensures) refl, refl)

pub returns-in-4 : goal.returns-in-4
returns-in-4 c = (rw (c.in-4.is, c.noted-in-4.ensures) refl, refl)

pub returns-in_default : goal.returns-in_default
returns-in_default c = let last : c.args.i ≡ 5 = omega arith in (rw (last, c.noted-in_default.ensures) refl, refl)

-- `message_holders::body::body_kept` meets its contract.
use mathlib.Core.Path.{◌≡◌, refl}
use native.Mathlib.Omega.{arith}
use Rattle.message_holders.proofs.body.body_kept.Goals as goal

pub returns-in-0 : goal.returns-in-0
returns-in-0 c = (rw c.in-0.is refl, refl)

pub returns-in-1 : goal.returns-in-1
returns-in-1 c = (rw c.in-1.is refl, refl)

pub returns-in-2 : goal.returns-in-2
returns-in-2 c = (rw c.in-2.is refl, refl)

pub returns-in_default : goal.returns-in_default
returns-in_default c = let last : c.args.r.count ≡ 3 = omega arith in (rw last refl, refl)

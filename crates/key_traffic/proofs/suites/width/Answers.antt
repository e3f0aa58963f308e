-- `key_traffic::suites::width` meets its contract.
use mathlib.Core.Path.{refl}
use native.Mathlib.Omega.{arith}
use Rattle.std.proofs.Common.{rules}
use borrow.Author.Tests.{tests}
use Rattle.key_traffic.specs.Suites.{width_of}
use Rattle.key_traffic.proofs.suites.width.Goals as goal

pub returns-in-256 : goal.returns-in-256
unfolding width_of
returns-in-256 c = rw c.in-256.is (refl, omega arith)

pub returns-in-768 : goal.returns-in-768
unfolding width_of
returns-in-768 c = rw c.in-768.is (refl, omega arith)

pub returns-in_default : goal.returns-in_default
unfolding width_of
returns-in_default c = search (rules, tests)

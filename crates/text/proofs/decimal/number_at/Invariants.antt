-- The invariant: reading on from here gives the answer.
use Rattle.std.proofs.Common.{◌≡◌, ◌+◌, drop}
use Rattle.text.specs.Decimal.{number_at}
use Rattle.text.proofs.Reading.{read_on}
use Rattle.text.proofs.decimal.number_at.Given as goal

abbrev pub invariant-loop-i : goal.invariant-loop-i
invariant-loop-i l = read_on l.at (l.at + l.i) l.p (drop l.i l.rest) ≡ number_at l.s l.at

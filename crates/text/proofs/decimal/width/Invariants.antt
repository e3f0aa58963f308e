-- `width` meets its contract. The invariant: the digits counted and those of what is left are one more than the number has.
use Prim.Native.Nat.{◌+◌}
use mathlib.Core.Path.{◌≡◌}
use lib.ListN.{length}
use Rattle.text.specs.Decimal.{decimal_of}
use Rattle.text.proofs.decimal.width.Given as goal

abbrev pub invariant-loop-left : goal.invariant-loop-left
invariant-loop-left l = l.k + length (decimal_of l.left) ≡ length (decimal_of l.n) + 1

abbrev pub decreases-loop-left : goal.decreases-loop-left
decreases-loop-left l = l.left

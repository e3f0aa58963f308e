-- `put_decimal` meets its contract. The invariant: the digits of what is left, stored over what is there, make the whole.
use Prim.Native.Nat.{◌+◌, ◌≤◌}
use mathlib.Core.Path.{◌≡◌}
use lib.Seq.{sets}
use lib.ListN.{length}
use Rattle.text.specs.Decimal.{decimal_of}
use Rattle.text.proofs.decimal.put_decimal.Given as goal

abbrev pub invariant-loop-left : goal.invariant-loop-left
invariant-loop-left l = (l.i ≡ l.at + length (decimal_of l.left)) × (l.i ≤ l.at + 20) × (length l.out ≡ length l.initial.out) × (sets l.out l.at (decimal_of l.left) ≡ sets l.initial.out l.at (decimal_of l.n))

abbrev pub decreases-loop-left : goal.decreases-loop-left
decreases-loop-left l = l.left

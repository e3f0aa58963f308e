-- `message_parts::put::put_descriptors` meets its contract.
use Prim.Native.Nat.{◌+◌, ◌*◌, ◌≤◌, min}
use lib.ListN.{take}
use Rattle.message_rules.specs.Writing.{descriptors_items}
use Rattle.message_parts.specs.Put.{Wrote}
use Rattle.message_parts.proofs.put.put_descriptors.Given as goal

abbrev pub invariant-loop-i : goal.invariant-loop-i
invariant-loop-i l = record {
  wrote : Wrote l.initial.out l.len (descriptors_items (take (min l.i l.n) l.fn.ds)) l.end l.out;
  upper_bound : l.end ≤ l.len + 17 * l.i;
}

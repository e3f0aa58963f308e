-- The clock's rule: of the records in use the first `i` are rolled, and the rest are as they were.
use Rattle.std.proofs.Common.{◌≡◌}
use Rattle.key_records.specs.Records.{rolled_to}
use Rattle.key_records.proofs.roll.Given as goal

abbrev pub invariant-loop-i : goal.invariant-loop-i
invariant-loop-i l = l.a-items ≡ rolled_to l.half l.t l.material 0 l.i l.initial.a-items

-- Storing a listing: of its places the first `i` have their records, and the rest are as they were.
use Rattle.std.proofs.Common.{◌≡◌}
use Rattle.key_records.specs.Records.{stored_at}
use Rattle.key_records.proofs.store.Given as goal

abbrev pub invariant-loop-i : goal.invariant-loop-i
invariant-loop-i l = l.a-items ≡ stored_at 0 l.half l.clock l.material l.l l.i l.initial.a-items

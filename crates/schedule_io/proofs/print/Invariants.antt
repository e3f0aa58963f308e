-- The invariant: the cursor is steady, and the octets handed on and those of the rows left are all there are. The measure is the number of
-- clock calls left.
use Rattle.std.proofs.Common.{◌≡◌, length}
use Rattle.schedule_table.specs.Schedule.{output_of}
use Rattle.schedule_io.proofs.HandedLaws.{Handed}
use Rattle.schedule_io.proofs.print.Given as goal

abbrev pub invariant-loop-cursor : goal.invariant-loop-cursor
invariant-loop-cursor l = Handed (output_of l.input) l.cursor l.octets × (length l.out ≡ 4096)

abbrev pub decreases-loop-cursor : goal.decreases-loop-cursor
decreases-loop-cursor l = l.cursor.left

-- `fill` meets its contract. The invariant is `Filling`; the measure is the number of clock calls left.
use Rattle.schedule_table.proofs.CursorLaws.{Filling}
use Rattle.schedule_table.proofs.print.fill.Given as goal

abbrev pub invariant-loop-cursor : goal.invariant-loop-cursor
invariant-loop-cursor l = Filling l.initial.out l.initial.cursor l.out l.cursor l.at

abbrev pub decreases-loop-cursor : goal.decreases-loop-cursor
decreases-loop-cursor l = l.cursor.left

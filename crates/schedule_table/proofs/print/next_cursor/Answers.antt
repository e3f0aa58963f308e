-- `next_cursor` meets its contract.
use native.Mathlib.Omega.{arith}
use Rattle.schedule_table.specs.Print.{next_of}
use Rattle.schedule_table.proofs.CursorLaws.{steady_rolls}
use Rattle.schedule_table.proofs.print.next_cursor.Goals as goal

pub rolled-requires : goal.rolled-requires
rolled-requires c = (steady_rolls c.args.c c.requires.0 c.requires.1, omega arith)

pub returns : goal.returns
unfolding next_of
returns c = simp c.rolled.ensures

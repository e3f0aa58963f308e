-- `first_cursor` meets its contract.
use native.Mathlib.Omega.{arith}
use Rattle.schedule_table.specs.Print.{cursor_of}
use Rattle.schedule_table.proofs.CursorLaws.{limits_of}
use Rattle.schedule_table.proofs.print.first_cursor.Goals as goal

pub listed-held-requires : goal.listed-held-requires
listed-held-requires c = let l = limits_of c.args.a c.requires in (record { half_small = omega arith; clock_small = omega arith }, (omega arith, omega arith))

pub overflow_sub-result : goal.overflow_sub-result
overflow_sub-result c = let l = limits_of c.args.a c.requires in omega arith

pub nonzero_div-result : goal.nonzero_div-result
nonzero_div-result c = let l = limits_of c.args.a c.requires in omega arith

pub returns : goal.returns
unfolding cursor_of
returns c = simp c.listed-held.ensures

-- `ends_at` meets its contract.
use Rattle.std.proofs.Common.{arith}
use Rattle.schedule_table.proofs.InputLaws.{ends_past, ends_before}
use Rattle.schedule_table.proofs.input.ends_at.Goals as goal

pub returns-then-s-at : goal.returns-then-s-at
returns-then-s-at c = ends_past c.args.s.now c.args.at (omega arith)

pub returns-else-s-at : goal.returns-else-s-at
returns-else-s-at c = ends_before c.args.s.now c.args.at (omega arith)

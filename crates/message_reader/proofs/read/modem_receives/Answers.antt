-- `message_reader::read::modem_receives` meets its contract.
use Rattle.message_rules.specs.Messages.{receives}
use borrow.Author.Tests.{le-leb, lt-leb}
use native.Mathlib.Omega.{arith}
use Rattle.message_reader.proofs.read.modem_receives.Goals as goal

pub returns-in-5-to-6 : goal.returns-in-5-to-6
unfolding receives
returns-in-5-to-6 c = simp (le-leb 5 c.args.c (omega arith), le-leb c.args.c 6 (omega arith))

pub returns-in-5-to-6-2 : goal.returns-in-5-to-6-2
unfolding receives
returns-in-5-to-6-2 c = simp (
  le-leb 5 c.args.c (omega arith),
  lt-leb c.args.c 6 (omega arith),
  le-leb 8 c.args.c (omega arith),
  le-leb c.args.c 11 (omega arith),
)

pub returns-in_default : goal.returns-in_default
unfolding receives
returns-in_default c = simp (lt-leb 5 c.args.c (omega arith), lt-leb 8 c.args.c (omega arith))

pub returns-in_default-2 : goal.returns-in_default-2
unfolding receives
returns-in_default-2 c = simp (le-leb 5 c.args.c (omega arith), lt-leb c.args.c 6 (omega arith), lt-leb 8 c.args.c (omega arith))

pub returns-in_default-3 : goal.returns-in_default-3
unfolding receives
returns-in_default-3 c = simp (
  le-leb 5 c.args.c (omega arith),
  lt-leb c.args.c 6 (omega arith),
  le-leb 8 c.args.c (omega arith),
  lt-leb c.args.c 11 (omega arith),
)

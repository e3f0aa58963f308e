-- `replay::keep` meets its contract.
use native.Mathlib.Omega.{arith}
use Rattle.replay.proofs.FedLaws.{kept_more, kept_full}
use Rattle.replay.proofs.keep.Goals as goal

pub returns-then-count-lt-LINE_KEPT : goal.returns-then-count-lt-LINE_KEPT
returns-then-count-lt-LINE_KEPT c = (kept_more c.args.count c.args.line.now c.args.b c.if-count-lt-LINE_KEPT.true c.requires.1, omega (arith, c.if-count-lt-LINE_KEPT.true))

pub returns-else-count-lt-LINE_KEPT : goal.returns-else-count-lt-LINE_KEPT
returns-else-count-lt-LINE_KEPT c = (kept_full c.args.count c.args.line.now c.args.b c.if-count-lt-LINE_KEPT.false c.requires.0 c.requires.1, c.requires.0)

-- `replay::answer` meets its contract.
use mathlib.Core.Path.{sym}
use native.Mathlib.Omega.{arith}
use lib.Seq.{length-take-le}
use borrow.Author.Rules.{rules}
use Rattle.replay.specs.Replay.{after_line}
use Rattle.replay.proofs.answer.Goals as goal

pub slice_bounds-write_all-end : goal.slice_bounds-write_all-end
slice_bounds-write_all-end c = sym (length-take-le _ _ (omega (arith, c.take_line-t.ensures.short, c.take_line-t.auto.out)))

pub returns : goal.returns
unfolding after_line
returns c = search rules

-- `replay::take_octet` meets its contract.
use mathlib.Core.Path.{sym}
use native.Mathlib.Omega.{arith}
use lib.Seq.{length-take-le}
use Rattle.replay.proofs.FedLaws.{line_over, line_on}
use Rattle.replay.proofs.take_octet.Goals as goal

pub slice_bounds-answer-end-then-b-eq-LINE_FEED : goal.slice_bounds-answer-end-then-b-eq-LINE_FEED
slice_bounds-answer-end-then-b-eq-LINE_FEED c = sym (length-take-le _ _ (omega (arith, c.requires.0, c.requires.1)))

pub returns-then-b-eq-LINE_FEED : goal.returns-then-b-eq-LINE_FEED
returns-then-b-eq-LINE_FEED c = line_over c.args.r.replay _ c.args.r.count c.args.line.now c.args.b c.if-b-eq-LINE_FEED.true c.answer-replay.ensures

pub returns : goal.returns
returns c = line_on c.args.r.replay c.args.r.count _ c.args.line.now _ c.args.b c.if-b-eq-LINE_FEED.false c.keep-count.ensures.0 c.keep-count.ensures.1

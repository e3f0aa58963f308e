-- `read_call` meets its contract.
use Rattle.std.proofs.Common.{sym, arith, refl}
use Rattle.replay_fields.specs.Places.{text_of}
use Rattle.replay_read.proofs.CallLaws.{long_reads, other_reads, known_reads}
use Rattle.replay_read.proofs.call.read_call.Goals as goal

pub returns-then-line-gt-LINE_MAX : goal.returns-then-line-gt-LINE_MAX
returns-then-line-gt-LINE_MAX c = long_reads c.args.line.now _ (omega arith) refl

pub returns-in_err-kind : goal.returns-in_err-kind
unfolding text_of
returns-in_err-kind c =
    other_reads c.args.line.now c.cut_line-c.result c.cut_line-c.ensures.1 (omega (arith, c.if-line-gt-LINE_MAX.false)) _ (sym c.in_err-kind.ensures) c.from_residual.ensures

pub returns : goal.returns
unfolding text_of
returns c =
    known_reads c.args.line.now c.cut_line-c.result c.cut_line-c.ensures.1 (omega (arith, c.if-line-gt-LINE_MAX.false)) c.in_ok-kind.kind _ (sym c.in_ok-kind.ensures) c.read_kind.ensures

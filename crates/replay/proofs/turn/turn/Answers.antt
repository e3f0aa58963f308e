-- `replay::turn::turn` meets its contract.
use Rattle.std.proofs.Common.{arith}
use Rattle.replay.proofs.TurnLaws.{too_long, says_none, says_call, places_fit}
use Rattle.replay.proofs.turn.turn.Goals as goal

pub returns-then-line-gt-LINE_MAX : goal.returns-then-line-gt-LINE_MAX
returns-then-line-gt-LINE_MAX c = record { answers_line = too_long c.args.e c.args.line.now _ _ _ c.if-line-gt-LINE_MAX.true c.no_call.ensures.0 c.no_call.ensures.1; count_le_answer_line = rw c.no_call.ensures.0 (omega arith) }

pub call_line-requires : goal.call_line-requires
call_line-requires c = (places_fit c.args.line.now _ c.in-Some.r c.in-Some.ensures, (omega (arith, c.if-line-gt-LINE_MAX.false), c.requires))

pub returns-in-Some : goal.returns-in-Some
returns-in-Some c = record { answers_line = says_call c.args.e c.args.line.now _ _ _ c.in-Some.r _ c.in-Some.ensures c.call_line.ensures.answers_step; count_le_answer_line = c.call_line.ensures.count_le_answer_line }

pub returns-in-None : goal.returns-in-None
returns-in-None c = record { answers_line = says_none c.args.e c.args.line.now _ _ _ _ c.in-None.ensures c.no_call-in-None.ensures.0 c.no_call-in-None.ensures.1; count_le_answer_line = rw c.no_call-in-None.ensures.0 (omega arith) }

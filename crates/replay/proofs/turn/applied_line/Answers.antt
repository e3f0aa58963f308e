-- `replay::turn::applied_line` meets its contract.
use native.Mathlib.Omega.{arith}
use Rattle.replay.proofs.TurnLaws.{given_fits, step_answered}
use Rattle.replay.proofs.turn.applied_line.Goals as goal

pub put_given-count-requires : goal.put_given-count-requires
put_given-count-requires c = let a = c.args in
    let r = c.apply-a in
    let pre = c.requires in
    given_fits a.e a.c a.octets.now a.auth.now a.read.now a.write.now a.frame.now r.result _ _ _ _ r.ensures.0 r.ensures.1 r.ensures.2 r.ensures.3 r.ensures.4 _ c.apply-a.auto.tek c.apply-a.auto.vector c.apply-a.auto.out (omega (arith, c.apply-a.auto.frame, pre.0)) pre.1

pub returns : goal.returns
returns c = let a = c.args in
    let r = c.apply-a in
    let put = c.put_given-count.ensures in
    record { answers_step = step_answered a.e a.c a.octets.now a.auth.now a.read.now a.write.now a.frame.now r.result _ _ _ _ r.ensures.0 r.ensures.1 r.ensures.2 r.ensures.3 r.ensures.4 _ _ _ _ put.puts_given; count_le_answer_line = put.upper_bound }

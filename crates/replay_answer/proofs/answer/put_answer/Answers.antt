-- `put_answer` meets its contract: the number, what its kind brings, and the line feed, each stored after the other.
use native.Mathlib.Omega.{arith}
use Rattle.key_traffic.proofs.StoreLaws.{then_put}
use Rattle.replay_answer.specs.Answer.{answer_text}
use Rattle.replay_answer.proofs.AnswerLaws.{decimal_put, line_put}
use Rattle.replay_answer.proofs.answer.put_answer.Goals as goal

pub returns : goal.returns
unfolding answer_text
returns c = let p = line_put (then_put (then_put (decimal_put c.args.out.now 0 c.args.number _ _ c.put_decimal-a.ensures.0 c.put_decimal-a.ensures.1.0) c.put_rest-b.ensures.put) c.put_octet.ensures.put) (omega (arith, c.put_octet.ensures.value, c.put_rest-b.ensures.upper_bound, c.put_decimal-a.ensures.1.1, c.requires.out_fits)) in
    record { out_after = p.0; value = p.1; upper_bound = omega (arith, c.put_octet.ensures.value, c.put_rest-b.ensures.upper_bound, c.put_decimal-a.ensures.1.1) }

-- `put_counts` meets its contract: the name and four numbers, each stored after the other.
use native.Mathlib.Omega.{arith}
use Rattle.key_traffic.proofs.StoreLaws.{then_put}
use Rattle.replay_answer.specs.Answer.{counts_text}
use Rattle.replay_answer.proofs.AnswerLaws.{line_put}
use Rattle.replay_answer.proofs.answer.put_counts.Goals as goal

pub returns : goal.returns
unfolding counts_text
returns c = let put-text = c.put_text-a in
    let put-number = c.put_number-b in
    let put-number2 = c.put_number-c in
    let put-number3 = c.put_number-d in
    let put-number4 = c.put_number in
    let p = line_put (then_put (then_put (then_put (then_put put-text.ensures put-number.ensures.put) put-number2.ensures.put) put-number3.ensures.put) put-number4.ensures.put) (omega (arith, put-text.ensures.after, put-number.ensures.upper_bound, put-number2.ensures.upper_bound, put-number3.ensures.upper_bound, put-number4.ensures.upper_bound, c.requires)) in record { out_after = p.0; value = p.1; upper_bound = omega (arith, put-text.ensures.after, put-number.ensures.upper_bound, put-number2.ensures.upper_bound, put-number3.ensures.upper_bound, put-number4.ensures.upper_bound) }

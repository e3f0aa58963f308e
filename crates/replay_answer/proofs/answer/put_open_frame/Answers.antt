-- `put_open_frame` meets its contract.
use native.Mathlib.Omega.{arith}
use Rattle.key_traffic.proofs.StoreLaws.{then_put}
use Rattle.replay_answer.proofs.answer.put_open_frame.Goals as goal

pub returns : goal.returns
returns c = let put-frame = c.put_frame-a in
    let put-sent = c.put_sent in
    record { put = then_put put-frame.ensures.put put-sent.ensures.put; upper_bound = omega (arith, put-frame.ensures.upper_bound, put-sent.ensures.upper_bound) }

-- `put_open` meets its contract.
use native.Mathlib.Omega.{arith}
use Rattle.key_traffic.proofs.StoreLaws.{then_put}
use Rattle.replay_answer.proofs.answer.put_open.Goals as goal

pub returns : goal.returns
returns c = let put-keys-if = c.put_keys_if-a in
    let put-sent = c.put_sent in
    record { put = then_put put-keys-if.ensures.put put-sent.ensures.put; upper_bound = omega (arith, put-keys-if.ensures.upper_bound, put-sent.ensures.upper_bound) }

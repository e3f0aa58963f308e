-- `put_comma_hex` meets its contract: a comma, and the digits after it.
use native.Mathlib.Omega.{arith}
use Rattle.key_traffic.proofs.StoreLaws.{then_put}
use Rattle.replay_answer.specs.Answer.{comma_hex}
use Rattle.replay_answer.proofs.answer.put_comma_hex.Goals as goal

pub returns : goal.returns
unfolding comma_hex
returns c = let put-octet = c.put_octet-a in
    let put-hex = c.put_hex in
    record { put = then_put put-octet.ensures.put put-hex.ensures.put; value = omega (arith, put-octet.ensures.value, put-hex.ensures.value) }

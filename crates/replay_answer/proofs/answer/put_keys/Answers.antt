-- `put_keys` meets its contract.
use native.Mathlib.Omega.{arith}
use Rattle.key_traffic.proofs.StoreLaws.{then_put}
use Rattle.replay_answer.proofs.answer.put_keys.Goals as goal

pub returns : goal.returns
returns c = let put-comma-hex = c.put_comma_hex-a in
    let put-comma-hex2 = c.put_comma_hex in
    record { put = then_put put-comma-hex.ensures.put put-comma-hex2.ensures.put; upper_bound = omega (arith, put-comma-hex.ensures.value, put-comma-hex2.ensures.value, c.requires) }

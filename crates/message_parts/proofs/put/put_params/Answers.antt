-- `message_parts::put::put_params` meets its contract.
use native.Mathlib.Omega.{arith}
use Rattle.message_parts.proofs.Stores.{then_inside}
use Rattle.message_parts.proofs.put.put_params.Goals as goal

pub returns : goal.returns
returns c = record {
  wrote = then_inside
      c.params_len.ensures.0
      c.put_head-inside.ensures.0
      c.put_head-inside.ensures.1
      c.put_inside.ensures.wrote
      (omega arith);
  upper_bound = omega arith;
}

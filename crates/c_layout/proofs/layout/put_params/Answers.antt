-- `c_layout::layout::put_params` meets its contract.
use Rattle.key_traffic.proofs.StoreLaws.{then_put, put_as}
use Rattle.c_layout.specs.Layout.{params_laid}
use native.Mathlib.Omega.{arith}
use Rattle.c_layout.proofs.layout.put_params.Goals as goal

pub returns : goal.returns
unfolding params_laid
returns c = record {
  put = then_put (then_put c.put_octets-a.ensures (put_as c.four_octets.ensures c.put_octets-b.ensures)) (then_put c.put_key-c.ensures.put c.put_key.ensures.put);
  value = omega arith;
}

-- `c_layout::layout::put_head` meets its contract.
use mathlib.Core.Path.{ap, ◌∙◌}
use native.Mathlib.Omega.{arith}
use Rattle.key_traffic.proofs.StoreLaws.{then_put, put_as}
use Rattle.message_rules.specs.Attributes.{two}
use Rattle.c_layout.specs.Layout.{head_laid}
use Rattle.c_layout.proofs.layout.put_head.Goals as goal

pub returns : goal.returns
unfolding head_laid
returns c = record {
  put = then_put
      c.put_octets-a.ensures
      (then_put (put_as (c.two_octets.ensures ∙ ap two c.from.ensures) c.put_octets-b.ensures) (put_as c.four_octets.ensures c.put_octets.ensures));
  value = omega arith;
}

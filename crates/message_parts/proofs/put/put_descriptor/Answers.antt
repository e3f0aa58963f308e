-- `message_parts::put::put_descriptor` meets its contract.
use mathlib.Core.Path.{refl, sym}
use native.Mathlib.Omega.{arith}
use Rattle.message_rules.specs.Writing.{descriptor_items_of}
use Rattle.message_rules.proofs.PartsWritten.{descriptor_length}
use Rattle.message_parts.proofs.Stores.{then_items, then_inside}
use Rattle.message_parts.proofs.put.put_descriptor.Goals as goal

pub returns : goal.returns
unfolding descriptor_items_of
returns c = record {
  wrote = then_inside
      (sym (descriptor_length c.args.d))
      c.put_head-a.ensures.0
      c.put_head-a.ensures.1
      (then_items c.put_two-b.ensures.wrote (then_items c.put_one-c.ensures.wrote c.put_two.ensures.wrote))
      refl;
  upper_bound = omega arith;
}

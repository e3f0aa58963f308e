-- `message_parts::put::put_inside` meets its contract.
use native.Mathlib.Omega.{arith}
use Rattle.message_rules.specs.Writing.{params_items_of}
use Rattle.message_parts.proofs.Stores.{then_items}
use Rattle.message_parts.proofs.put.put_inside.Goals as goal

pub returns : goal.returns
unfolding params_items_of
returns c = record { wrote = then_items c.put_key-a.ensures.wrote (then_items c.put_four-b.ensures.wrote (then_items c.put_one-c.ensures.wrote c.put_key.ensures.wrote)); upper_bound = omega arith }

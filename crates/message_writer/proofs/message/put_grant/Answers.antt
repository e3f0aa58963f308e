-- `message_writer::message::put_grant` meets its contract.
use native.Mathlib.Omega.{arith}
use Rattle.message_parts.proofs.Stores.{then_items}
use Rattle.message_writer.proofs.message.put_grant.Goals as goal

pub returns : goal.returns
returns c = record { wrote = then_items c.put_four-a.ensures.wrote (then_items c.put_one-b.ensures.wrote c.put_descriptors.ensures.wrote); upper_bound = omega arith }

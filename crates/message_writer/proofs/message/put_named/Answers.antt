-- `message_writer::message::put_named` meets its contract.
use native.Mathlib.Omega.{arith}
use Rattle.message_parts.proofs.Stores.{then_items}
use Rattle.message_writer.proofs.message.put_named.Goals as goal

pub returns : goal.returns
returns c = record { wrote = then_items c.put_one-a.ensures.wrote c.put_two.ensures.wrote; value = omega arith }

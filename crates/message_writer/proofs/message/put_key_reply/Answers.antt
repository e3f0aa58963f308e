-- `message_writer::message::put_key_reply` meets its contract.
use native.Mathlib.Omega.{arith}
use Rattle.message_parts.proofs.Stores.{then_items}
use Rattle.message_writer.proofs.message.put_key_reply.Goals as goal

pub returns : goal.returns
returns c = record { wrote = then_items c.put_named-a.ensures.wrote c.put_pair.ensures.wrote; upper_bound = omega arith }

-- `message_writer::message::put_pair` meets its contract.
use native.Mathlib.Omega.{arith}
use Rattle.message_parts.proofs.Stores.{then_items}
use Rattle.message_writer.proofs.message.put_pair.Goals as goal

pub returns : goal.returns
returns c = record { wrote = then_items c.put_params-a.ensures.wrote c.put_params.ensures.wrote; upper_bound = omega arith }

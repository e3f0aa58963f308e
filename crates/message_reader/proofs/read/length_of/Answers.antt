-- `message_reader::read::length_of` meets its contract.
use native.Mathlib.Omega.{arith}
use Rattle.message_rules.specs.Messages.{length_of}
use Rattle.message_reader.proofs.read.length_of.Goals as goal

pub returns : goal.returns
unfolding length_of
returns c = (cc, omega arith)

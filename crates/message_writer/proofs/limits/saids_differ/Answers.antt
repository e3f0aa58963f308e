-- `message_writer::limits::saids_differ` meets its contract.
use native.Mathlib.Omega.{arith}
use Rattle.message_writer.proofs.ApartLaws.{differ_pairs}
use Rattle.message_writer.proofs.limits.saids_differ.Goals as goal

pub returns : goal.returns
returns c = let a = c.args in
    rw c.all_apart.ensures (differ_pairs a.n a.ds (omega arith))

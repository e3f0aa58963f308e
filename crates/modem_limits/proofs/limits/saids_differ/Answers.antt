-- `modem_limits::limits::saids_differ` meets its contract.
use native.Mathlib.Omega.{arith}
use Rattle.modem_limits.proofs.ApartLaws.{differ_pairs}
use Rattle.modem_limits.proofs.limits.saids_differ.Goals as goal

pub returns : goal.returns
returns c = let a = c.args in
    rw c.all_apart.ensures (differ_pairs a.n a.teks (omega arith))

-- `run` meets its contract.
use mathlib.Core.Path.{◌≡◌}
use native.Mathlib.Omega.{arith}
use lib.ListN.{length, take}
use lib.Seq.{length-take-le}
use Rattle.schedule_io.proofs.run.Goals as goal

pub returns : goal.returns
returns c =
    let r = c.read_full-n in
    let long : length (take r.result r.new.buf) ≡ r.result = length-take-le r.result r.new.buf r.ensures in
    record { input = take r.result r.new.buf; short = omega arith; sends = c.print.ensures }

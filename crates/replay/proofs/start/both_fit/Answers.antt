-- `replay::start::both_fit` meets its contract.
use mathlib.Core.Path.{◌≡◌}
use mathlib.Core.Bool.{◌&&◌}
use Rattle.replay.specs.Replay.{both_fit_of}
use Rattle.replay.proofs.start.both_fit.Goals as goal

pub returns : goal.returns
returns c =
    let fits : (c.is_ok.result && c.is_ok-2.result) ≡ both_fit_of c.args.settings c.args.address c.args.said =
    simp (c.is_ok-2.ensures.value, c.is_ok.ensures.value, c.new-m.ensures, c.new-h.ensures)
    in
    fits

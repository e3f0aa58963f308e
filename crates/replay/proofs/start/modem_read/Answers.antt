-- `replay::start::modem_read` meets its contract.
use mathlib.Core.Path.{◌≡◌, ◌∙◌, refl, sym}
use mathlib.Core.Bool.{true}
use Rattle.replay.specs.Replay.{both_fit_of}
use Rattle.replay.proofs.start.modem_read.Goals as goal

pub returns-in-Some : goal.returns-in-Some
returns-in-Some c =
    let fit : both_fit_of c.args.s.settings c.in-Some.m.address c.in-Some.m.said ≡ true = sym c.both_fit.ensures ∙ c.if-both_fit.true in
    rw (c.in-Some.is, fit, c.fresh_ends.ensures) refl

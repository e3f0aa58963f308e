-- `modem_frames::rules::pair_opening` meets its contract.
use mathlib.Core.Path.{◌≡◌}
use native.Mathlib.Omega.{arith}
use borrow.Author.Tests.{eq-eqb}
use Rattle.modem_frames.proofs.rules.pair_opening.Goals as goal

pub returns-then-pair-eq-HELD : goal.returns-then-pair-eq-HELD
returns-then-pair-eq-HELD c = let held : c.args.pair.held ≡ 1 = omega (arith, c.if-pair-eq-HELD.true) in
    rw (eq-eqb c.args.pair.held 1 held) c.decide.ensures.0

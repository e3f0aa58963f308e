-- `modem_limits::limits::tek_fits` meets its contract.
use Rattle.modem_limits.specs.Limits.{pair_held_fits_of, tek_fits_of}
use Rattle.key_traffic.specs.Suites.{width_of}
use Rattle.modem_transitions.specs.Transitions.{D}
use mathlib.Core.Path.{◌≡◌, refl}
use lib.Dec.{leb}
use Rattle.modem_limits.proofs.limits.tek_fits.Goals as goal

pub returns : goal.returns
unfolding tek_fits_of
returns c = let x = c.args in
    let held : c.pair_held_fits.result ≡ pair_held_fits_of (leb D x.t.state) (width_of x.t.suite) x.clock x.t.pair =
    rw (c.pair_held_fits.ensures, c.width.ensures.0) refl in
    simp (
      held,
      c.timer_fits.ensures,
      c.longest_wait.ensures,
      c.suite_known.ensures,
    )
    refl

-- `questions::settings::waits_fit` meets its contract.
use mathlib.Core.Path.{refl}
use Rattle.questions.specs.Settings.{waits_fit_of}
use Rattle.questions.proofs.settings.waits_fit.Goals as goal

pub returns : goal.returns
unfolding waits_fit_of
returns c = rw (c.wait_fits-5.ensures, c.wait_fits-4.ensures, c.wait_fits-3.ensures, c.wait_fits-2.ensures, c.wait_fits.ensures) refl

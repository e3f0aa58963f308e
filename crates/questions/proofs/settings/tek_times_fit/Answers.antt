-- `questions::settings::tek_times_fit` meets its contract.
use Rattle.questions.specs.Settings.{tek_times_fit_of}
use mathlib.Core.Path.{refl}
use Rattle.questions.proofs.settings.tek_times_fit.Goals as goal

pub returns : goal.returns
unfolding tek_times_fit_of
returns c = simp (c.life_fits.ensures, c.half.ensures) refl

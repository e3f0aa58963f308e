-- `questions::settings::settings_fit` meets its contract.
use mathlib.Core.Path.{refl}
use Rattle.questions.specs.Settings.{settings_fit_of}
use Rattle.questions.proofs.settings.settings_fit.Goals as goal

pub returns : goal.returns
unfolding settings_fit_of
returns c = rw (c.waits_fit.ensures, c.ak_times_fit.ensures, c.tek_times_fit.ensures) refl

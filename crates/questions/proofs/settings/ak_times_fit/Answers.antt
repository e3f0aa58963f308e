-- `questions::settings::ak_times_fit` meets its contract.
use mathlib.Core.Path.{refl}
use Rattle.questions.specs.Settings.{ak_times_fit_of}
use Rattle.questions.proofs.settings.ak_times_fit.Goals as goal

pub returns : goal.returns
unfolding ak_times_fit_of
returns c = refl

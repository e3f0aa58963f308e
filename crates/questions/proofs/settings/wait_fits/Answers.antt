-- `questions::settings::wait_fits` meets its contract.
use mathlib.Core.Path.{refl}
use Rattle.questions.specs.Settings.{wait_fits_of}
use Rattle.questions.proofs.settings.wait_fits.Goals as goal

pub returns : goal.returns
unfolding wait_fits_of
returns c = refl

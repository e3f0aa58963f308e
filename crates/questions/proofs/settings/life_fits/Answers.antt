-- `questions::settings::life_fits` meets its contract.
use mathlib.Core.Path.{refl}
use Rattle.questions.specs.Settings.{life_fits_of}
use Rattle.questions.proofs.settings.life_fits.Goals as goal

pub returns : goal.returns
unfolding life_fits_of
returns c = refl

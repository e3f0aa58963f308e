-- `headend_frames::rules::header_fits` meets its contract.
use mathlib.Core.Path.{refl}
use Rattle.headend_frames.proofs.rules.header_fits.Goals as goal

pub returns : goal.returns
returns c = rw (c.frame_fits.ensures, c.tek_in_range.ensures) refl

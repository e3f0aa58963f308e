-- `modem_frames::frames::frame_fits` meets its contract.
use mathlib.Core.Path.{refl}
use Rattle.modem_frames.proofs.frames.frame_fits.Goals as goal

pub returns : goal.returns
returns c = rw (c.modem_fits.ensures, c.tek_in_range.ensures) refl

-- `c_frame_decision::frame::frame_fits` meets its contract.
use Rattle.c_frame_decision.specs.Frame.{frame_fits_of}
use Rattle.c_frame_decision.proofs.frame.frame_fits.Goals as goal

pub returns : goal.returns
unfolding frame_fits_of
returns c = cc

-- `c_frame_decision::frame::slices_fit` meets its contract.
use Rattle.c_frame_decision.specs.Frame.{slices_fit_of}
use mathlib.Core.Path.{refl}
use Rattle.c_frame_decision.proofs.frame.slices_fit.Goals as goal

pub returns : goal.returns
unfolding slices_fit_of
returns c = refl

-- `headend_frames::rules::counted` meets its contract.
use mathlib.Core.Path.{◌≡◌, refl}
use mathlib.Core.Logic.{◌⊎◌, inl, inr}
use mathlib.Core.Bool.{true, false, ◌||◌}
use Prim.Native.Nat.{ℕ}
use lib.Dec.{eqb}
use Rattle.headend_frames.specs.FrameQuestions.{counted_by_of}
use Rattle.headend_frames.proofs.rules.counted.Goals as goal

-- 10 and 13 count as a frame refused
refused_frame : (n : ℕ) → (n ≡ 10) ⊎ (n ≡ 13) → (eqb n 0 ≡ false) × ((eqb n 10 || eqb n 13) ≡ true)
refused_frame n (inl e) = rw e (refl, refl)
refused_frame n (inr e) = rw e (refl, refl)

pub returns-in-10 : goal.returns-in-10
unfolding counted_by_of
returns-in-10 c = let q = refused_frame c.args.no c.in-10.is in rw (c.one_more-in-10.ensures, q.0, q.1) refl

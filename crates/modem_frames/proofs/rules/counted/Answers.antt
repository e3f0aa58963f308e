-- `modem_frames::rules::counted` meets its contract.
use Prim.Native.Nat.{ℕ}
use mathlib.Core.Path.{ap}
use mathlib.Core.Logic.{⊎_elim}
use Rattle.modem_frames.specs.FrameRules.{with_counts, counted_by_of}
use Rattle.modem_frames.proofs.rules.counted.Goals as goal

pub returns-in-10 : goal.returns-in-10
unfolding counted_by_of
returns-in-10 c = let m = c.args.m in
    ⊎_elim (λ e. rw e (ap (λ (k : ℕ). with_counts m m.taken k) c.one_more-in-10.ensures)) (λ e. rw e (ap (λ (k : ℕ). with_counts m m.taken k) c.one_more-in-10.ensures)) c.in-10.is

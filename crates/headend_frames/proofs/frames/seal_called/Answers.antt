-- `headend_frames::frames::seal_called` meets its contract.
use mathlib.Core.Path.{◌≡◌, refl, sym, ◌∙◌}
use mathlib.Core.List.{List}
use Prim.Native.Nat.{ℕ}
use lib.ListN.{length, take}
use Rattle.questions.specs.Answer.{Answer, Done}
use Rattle.key_traffic.specs.declared.traffic.TrafficKey.{TrafficKey}
use Rattle.key_traffic.specs.Octets.{overlay}
use Rattle.key_traffic.specs.Sealing.{sealed_for, SealGives}
use Rattle.headend_frames.specs.Frames.{sealed_with}
use Rattle.headend_frames.proofs.FrameCallLaws.{seal_room}
use Rattle.headend_frames.proofs.frames.seal_called.Goals as goal

pub put_key-requires : goal.put_key-requires
put_key-requires c = let x = c.args in
    let room = seal_room x.h x.r.bad x.r.len x.r.found x.address x.said (length x.tek.now) (length x.vector.now) (sym c.seal_answer.ensures ∙ c.in-Ok.is) in
    (c.width.ensures.1, room.0, room.1)

-- with the answer, and the width, by other names
sealed_by : (a : Answer) (k : TrafficKey) (w wide n : ℕ) (tek vector tek-after vector-after : List ℕ) → a ≡ Done → wide ≡ w → n ≡ length (take wide k.tek)
    → tek-after ≡ overlay tek (take wide k.tek) → vector-after ≡ overlay vector (take wide k.vector)
    → SealGives (sealed_for a w k) tek vector (record { answer = Done; number = k.number; width = n }) tek-after vector-after
sealed_by a k w wide n tek vector tek-after vector-after done same e₁ e₂ e₃ = rw (done, e₁, e₂, e₃, same) (refl, refl, refl)

pub returns-in-Ok : goal.returns-in-Ok
unfolding sealed_with
returns-in-Ok c = let x = c.args in
    let p = c.put_key.ensures in
    sealed_by _ x.r.found.held.older _ _ _ x.tek.now x.vector.now _ _ (sym c.seal_answer.ensures ∙ c.in-Ok.is) c.width.ensures.0 p.0 p.1 p.2

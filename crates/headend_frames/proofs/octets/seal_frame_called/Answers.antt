-- `headend_frames::octets::seal_frame_called` meets its contract.
use mathlib.Core.Path.{sym, ◌∙◌, ap}
use Prim.Native.Nat.{ℕ}
use lib.ListN.{length}
use Rattle.questions.specs.Answer.{Done}
use Rattle.headend_frames.specs.OctetFrames.{sealed_frame_with}
use Rattle.headend_frames.proofs.OctetLaws.{seal_frame_room}
use Rattle.headend_frames.proofs.octets.seal_frame_called.Goals as goal

pub seal_under-requires : goal.seal_under-requires
seal_under-requires c = let x = c.args in
    let room = seal_frame_room x.h x.r.bad x.r.len x.r.found x.address x.said (length x.frame.now) (length x.sealed.now) (sym c.seal_frame_answer.ensures ∙ c.in-Ok.is) in
    (room.0, room.1)

pub returns-in-Ok : goal.returns-in-Ok
unfolding sealed_frame_with
returns-in-Ok c = let x = c.args in
    let done = sym c.seal_frame_answer.ensures ∙ c.in-Ok.is in
    let room = seal_frame_room x.h x.r.bad x.r.len x.r.found x.address x.said (length x.frame.now) (length x.sealed.now) done in
    rw (done, room.2) (ap (λ (n : ℕ). record { answer = Done; number = x.r.found.held.older.number; width = n }) c.seal_under.ensures.0, c.seal_under.ensures.1)

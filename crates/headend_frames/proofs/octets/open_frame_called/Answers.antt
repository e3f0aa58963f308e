-- `headend_frames::octets::open_frame_called` meets its contract: the passed questions give what writing asks.
use mathlib.Core.Bool.{Bool, true}
use mathlib.Core.Path.{◌≡◌, sym, ◌∙◌, ap, subst}
use lib.ListN.{length}
use Rattle.questions.specs.Refusal.{answer_number_of}
use Rattle.key_traffic.specs.Opening.{Opening}
use Rattle.key_traffic.specs.Frame.{opens}
use Rattle.headend_frames.specs.OctetFrames.{open_frame_answer_of, opened_frame_with}
use Rattle.headend_frames.proofs.OctetLaws.{frame_openable, open_frame_done}
use Rattle.headend_frames.proofs.octets.open_frame_called.Goals as goal

pub open_by-count-requires : goal.open_by-count-requires
open_by-count-requires c =
    let x = c.args in
    -- the answer, with the key's length as the definition asks it
    let asked = c.open_frame_answer.ensures
    ∙ ap (λ (b : Bool). open_frame_answer_of x.h x.r.bad x.r.len x.r.found x.f.direction x.f.address x.f.said x.f.number b (length x.frame.now) (length x.opened.now) (length x.invalid.now)) c.message_key_fits-keys.ensures in
    let ready = frame_openable x.h x.r.bad x.r.len x.r.found x.f.address x.f.said x.f.direction x.f.number x.write_key.now (length x.frame.now) (length x.opened.now) (length x.invalid.now)
    c.open_frame_answer.result asked in
    let room = ready.frame-fits (ap answer_number_of c.in-Ok.is) in
    (subst (λ (o : Opening). opens o ≡ true) (sym c.decide-by.ensures.0) room.0, room.2, room.3)

pub returns-in-Ok : goal.returns-in-Ok
unfolding opened_frame_with
returns-in-Ok c =
    let x = c.args in
    -- the answer, with the key's length as the definition asks it
    let asked = c.open_frame_answer.ensures
    ∙ ap (λ (b : Bool). open_frame_answer_of x.h x.r.bad x.r.len x.r.found x.f.direction x.f.address x.f.said x.f.number b (length x.frame.now) (length x.opened.now) (length x.invalid.now)) c.message_key_fits-keys.ensures in
    let ready = frame_openable x.h x.r.bad x.r.len x.r.found x.f.address x.f.said x.f.direction x.f.number x.write_key.now (length x.frame.now) (length x.opened.now) (length x.invalid.now)
    c.open_frame_answer.result asked in
    let room = ready.frame-fits (ap answer_number_of c.in-Ok.is) in
    open_frame_done x.h x.r.found x.f.address x.f.said x.f.number x.frame.now x.write_key.now x.opened.now x.invalid.now _ (sym asked ∙ c.in-Ok.is) room.1
    c.decide-by.result c.decide-by.ensures.0 c.open_by-count.result _ c.open_by-count.ensures c.counted.result c.counted.ensures c.opened_call.result c.opened_call.ensures

pub unopened-requires : goal.unopened-requires
unopened-requires c =
    let x = c.args in
    let asked = c.open_frame_answer.ensures
    ∙ ap (λ (b : Bool). open_frame_answer_of x.h x.r.bad x.r.len x.r.found x.f.direction x.f.address x.f.said x.f.number b (length x.frame.now) (length x.opened.now) (length x.invalid.now)) c.message_key_fits-keys.ensures in
    let ready = frame_openable x.h x.r.bad x.r.len x.r.found x.f.address x.f.said x.f.direction x.f.number x.write_key.now (length x.frame.now) (length x.opened.now) (length x.invalid.now)
    c.open_frame_answer.result asked in
    λ e. ready.invalid_fits (ap answer_number_of c.in-Err.is ∙ e)

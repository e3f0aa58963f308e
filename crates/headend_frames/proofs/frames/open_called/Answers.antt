-- `headend_frames::frames::open_called` meets its contract: the passed questions give what writing asks.
use mathlib.Core.Bool.{Bool}
use mathlib.Core.Path.{◌∙◌, ap}
use lib.ListN.{length}
use Rattle.questions.specs.Refusal.{answer_number_of}
use Rattle.headend_frames.specs.FrameQuestions.{open_answer_of}
use Rattle.headend_frames.proofs.FrameCallLaws.{openable}
use Rattle.headend_frames.proofs.frames.open_called.Goals as goal

pub put_opened-count-requires : goal.put_opened-count-requires
put_opened-count-requires c =
    let x = c.args in
    -- the answer, with the key's length as the definition asks it
    let asked = c.open_answer.ensures
    ∙ ap (λ (b : Bool). open_answer_of x.h x.r.bad x.r.len x.r.found x.f.direction x.f.address x.f.said x.f.number b (length x.tek.now) (length x.vector.now) (length x.invalid.now)) c.message_key_fits-keys.ensures in
    let ready = openable x.h x.r.bad x.r.len x.r.found x.f.address x.f.said x.f.direction x.f.number x.write_key.now (length x.tek.now) (length x.vector.now) (length x.invalid.now)
    c.open_answer.result asked in
    let room = ready.key (ap answer_number_of c.in-Ok.is) in
    (c.width-wide.ensures.1, room.0, room.1)

pub unopened-requires : goal.unopened-requires
unopened-requires c =
    let x = c.args in
    let asked = c.open_answer.ensures
    ∙ ap (λ (b : Bool). open_answer_of x.h x.r.bad x.r.len x.r.found x.f.direction x.f.address x.f.said x.f.number b (length x.tek.now) (length x.vector.now) (length x.invalid.now)) c.message_key_fits-keys.ensures in
    let ready = openable x.h x.r.bad x.r.len x.r.found x.f.address x.f.said x.f.direction x.f.number x.write_key.now (length x.tek.now) (length x.vector.now) (length x.invalid.now)
    c.open_answer.result asked in
    λ e. ready.invalid_fits (ap answer_number_of c.in-Err.is ∙ e)

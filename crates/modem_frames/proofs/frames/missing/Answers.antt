-- `modem_frames::frames::missing` meets its contract.
use Rattle.modem_frames.proofs.FrameCalledLaws.{deliver_slot, deliver_out}
use Rattle.modem_calls.proofs.AnswerLaws.{out_there}
use Rattle.modem_calls.proofs.AskedLaws.{fits_ready}
use Rattle.modem_steps.proofs.ReadyLaws.{started_ready}
use Rattle.modem_steps.specs.Slots.{slot_of_said_of, deliver}
use Rattle.modem_steps.specs.State.{starting}
use borrow.Author.Tests.{ltb-true}
use native.Mathlib.Omega.{arith}
use Rattle.modem_frames.proofs.frames.missing.Goals as goal

pub deliver-w-requires : goal.deliver-w-requires
deliver-w-requires c = let x = c.args in
    let p = c.requires in (
      omega (arith, c.slot_of_said.ensures.0, ltb-true (slot_of_said_of x.m x.said) 4 p.1.0),
      started_ready x.m c.start.result c.start.ensures (fits_ready x.m p.0),
    )

pub put_out-n-requires : goal.put_out-n-requires
put_out-n-requires c = let x = c.args in
    let p = c.requires in
    let is = deliver_slot x.m x.said c.start.result c.deliver-w.result c.slot_of_said.result c.start.ensures c.slot_of_said.ensures.0 c.deliver-w.ensures.0 in
    (out_there c.deliver-w.result (deliver (starting x.m) (slot_of_said_of x.m x.said) 5) is (deliver_out x.m x.said p.0 p.1.0), p.1.1.0, p.1.1.1)

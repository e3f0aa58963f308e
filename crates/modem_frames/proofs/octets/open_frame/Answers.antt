-- `modem_frames::octets::open_frame` meets its contract.
use mathlib.Core.Path.{refl}
use Rattle.modem_frames.proofs.OctetCallLaws.{frame_missing_ready, open_frame_refused, open_frame_ready, open_frame_done}
use Rattle.modem_frames.proofs.octets.open_frame.Goals as goal

pub put_machine_frame-w-requires : goal.put_machine_frame-w-requires
put_machine_frame-w-requires c = let x = c.args in
    open_frame_ready x.m x.direction x.address x.said x.number x.frame.now x.write_key.now x.opened.now x.out.now c.machine_of-t.result c.message_key_fits-keys.result _
    c.machine_of-t.ensures c.message_key_fits-keys.ensures c.in-Ok.ensures refl

pub returns-in-Ok : goal.returns-in-Ok
returns-in-Ok c = let x = c.args in
    open_frame_done x.m x.direction x.address x.said x.number x.frame.now x.write_key.now x.opened.now x.out.now c.machine_of-t.result c.message_key_fits-keys.result _
    c.machine_of-t.ensures c.message_key_fits-keys.ensures c.in-Ok.ensures refl c.counted.result c.put_machine_frame-w.result c.opened_call.result _
    c.counted.ensures c.put_machine_frame-w.ensures.0 c.opened_call.ensures c.put_machine_frame-w.ensures.1

pub not_opened-requires : goal.not_opened-requires
not_opened-requires c = let x = c.args in
    frame_missing_ready x.m x.direction x.address x.said x.number x.frame.now x.write_key.now x.opened.now x.out.now c.machine_of-t.result c.message_key_fits-keys.result _
    c.machine_of-t.ensures c.message_key_fits-keys.ensures c.in-Err.ensures _ refl

pub returns-in-Err : goal.returns-in-Err
returns-in-Err c = let x = c.args in
    open_frame_refused x.m x.direction x.address x.said x.number x.frame.now x.write_key.now x.opened.now x.out.now c.machine_of-t.result c.message_key_fits-keys.result _
    c.machine_of-t.ensures c.message_key_fits-keys.ensures c.in-Err.ensures _ refl c.not_opened.result _ c.not_opened.ensures.0 c.not_opened.ensures.1

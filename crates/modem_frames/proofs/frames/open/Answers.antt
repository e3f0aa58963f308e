-- `modem_frames::frames::open` meets its contract.
use mathlib.Core.Path.{refl}
use Rattle.modem_frames.proofs.FrameCalledLaws.{missing_ready, open_refused, open_long, open_done}
use Rattle.modem_frames.proofs.frames.open.Goals as goal

pub put_machine_out-w-requires : goal.put_machine_out-w-requires
put_machine_out-w-requires c = let x = c.args in
    open_long x.m x.direction x.address x.said x.number x.write_key.now x.tek.now x.vector.now x.out.now c.machine_of-t.result c.message_key_fits-keys.result _
    c.machine_of-t.ensures c.message_key_fits-keys.ensures c.in-Ok.ensures refl

pub returns-in-Ok : goal.returns-in-Ok
returns-in-Ok c = let x = c.args in
    open_done x.m x.direction x.address x.said x.number x.write_key.now x.tek.now x.vector.now x.out.now c.machine_of-t.result c.message_key_fits-keys.result _
    c.machine_of-t.ensures c.message_key_fits-keys.ensures c.in-Ok.ensures refl c.counted.result c.put_machine_out-w.result c.opened_call.result _ _
    c.counted.ensures c.put_machine_out-w.ensures.0 c.opened_call.ensures c.put_machine_out-w.ensures.1.0 c.put_machine_out-w.ensures.1.1

pub not_opened-requires : goal.not_opened-requires
not_opened-requires c = let x = c.args in
    missing_ready x.m x.direction x.address x.said x.number x.write_key.now x.tek.now x.vector.now x.out.now c.machine_of-t.result c.message_key_fits-keys.result _
    c.machine_of-t.ensures c.message_key_fits-keys.ensures c.in-Err.ensures _ refl

pub returns-in-Err : goal.returns-in-Err
returns-in-Err c = let x = c.args in
    open_refused x.m x.direction x.address x.said x.number x.write_key.now x.tek.now x.vector.now x.out.now c.machine_of-t.result c.message_key_fits-keys.result _
    c.machine_of-t.ensures c.message_key_fits-keys.ensures c.in-Err.ensures _ refl c.not_opened.result _ c.not_opened.ensures.0 c.not_opened.ensures.1

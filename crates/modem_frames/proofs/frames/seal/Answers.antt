-- `modem_frames::frames::seal` meets its contract.
use mathlib.Core.Path.{refl}
use Rattle.modem_frames.proofs.FrameCalledLaws.{seal_refused, seal_long, seal_done}
use Rattle.modem_frames.proofs.frames.seal.Goals as goal

pub put_key-requires : goal.put_key-requires
put_key-requires c = let x = c.args in
    let long = seal_long x.m x.said x.tek.now x.vector.now c.machine_of-t.result _ c.machine_of-t.ensures c.in-Ok.ensures refl in
    (c.width.ensures.1, long.0, long.1)

pub returns-in-Ok : goal.returns-in-Ok
returns-in-Ok c = let x = c.args in
    seal_done x.m x.said x.tek.now x.vector.now c.machine_of-t.result _ c.machine_of-t.ensures c.in-Ok.ensures refl
    c.width.result c.put_key.result _ _ c.width.ensures.0 c.put_key.ensures.0 c.put_key.ensures.1 c.put_key.ensures.2

pub returns-in-Err : goal.returns-in-Err
returns-in-Err c = let x = c.args in
    rw c.not_sealed.ensures (seal_refused x.m x.said x.tek.now x.vector.now c.machine_of-t.result _ c.machine_of-t.ensures c.in-Err.ensures _ refl)

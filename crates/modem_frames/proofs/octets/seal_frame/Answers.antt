-- `modem_frames::octets::seal_frame` meets its contract.
use mathlib.Core.Path.{refl}
use Rattle.modem_frames.proofs.OctetCallLaws.{seal_frame_refused, seal_frame_long, seal_frame_done}
use Rattle.modem_frames.proofs.octets.seal_frame.Goals as goal

pub seal_under-requires : goal.seal_under-requires
seal_under-requires c = let x = c.args in
    seal_frame_long x.m x.said x.frame.now x.sealed.now c.machine_of-t.result _ c.machine_of-t.ensures c.in-Ok.ensures refl

pub returns-in-Ok : goal.returns-in-Ok
returns-in-Ok c = let x = c.args in
    seal_frame_done x.m x.said x.frame.now x.sealed.now c.machine_of-t.result _ c.machine_of-t.ensures c.in-Ok.ensures refl
    c.seal_under.result _ c.seal_under.ensures.0 c.seal_under.ensures.1

pub returns-in-Err : goal.returns-in-Err
returns-in-Err c = let x = c.args in
    rw c.not_sealed.ensures (seal_frame_refused x.m x.said x.frame.now x.sealed.now c.machine_of-t.result _ c.machine_of-t.ensures c.in-Err.ensures _ refl)

-- `replay::turn::call_line` meets its contract.
use mathlib.Core.Path.{sym}
use native.Mathlib.Omega.{arith}
use lib.Seq.{length-take-le}
use Rattle.replay.proofs.TurnLaws.{frame_lent, call_line}
use Rattle.replay.proofs.turn.call_line.Goals as goal

pub slice_bounds-applied_line-end : goal.slice_bounds-applied_line-end
slice_bounds-applied_line-end c = sym (length-take-le _ _ (omega (arith, c.requires.0.octets, c.requires.1.0, c.put_octets_at.auto.out)))

pub slice_bounds-applied_line-end-2 : goal.slice_bounds-applied_line-end-2
slice_bounds-applied_line-end-2 c = sym (length-take-le _ _ (omega (arith, c.requires.0.auth, c.requires.1.0, c.put_octets_at-2.auto.out)))

pub slice_bounds-applied_line-end-3 : goal.slice_bounds-applied_line-end-3
slice_bounds-applied_line-end-3 c = sym (length-take-le _ _ (omega (arith, c.requires.0.read, c.requires.1.0, c.put_octets_at-3.auto.out)))

pub slice_bounds-applied_line-end-4 : goal.slice_bounds-applied_line-end-4
slice_bounds-applied_line-end-4 c = sym (length-take-le _ _ (omega (arith, c.requires.0.write, c.requires.1.0, c.put_octets_at-4.auto.out)))

pub slice_bounds-applied_line-end-5 : goal.slice_bounds-applied_line-end-5
slice_bounds-applied_line-end-5 c = let x = c.args in
    let pre = c.requires in
    sym (frame_lent x.line.now x.r.octets pre.0.octets pre.1.0)

pub applied_line-requires : goal.applied_line-requires
applied_line-requires c = let x = c.args in
    let pre = c.requires in
    (omega (arith, frame_lent x.line.now x.r.octets pre.0.octets pre.1.0, pre.0.octets, pre.1.0), pre.1.1)

pub returns : goal.returns
returns c = let x = c.args in
    let pre = c.requires in
    let done = c.applied_line.ensures in
    record { answers_step = call_line x.e x.line.now x.r _ _ _ _ _ _ _ _ pre.0 c.put_octets_at.ensures c.put_octets_at-2.ensures c.put_octets_at-3.ensures c.put_octets_at-4.ensures (frame_lent x.line.now x.r.octets pre.0.octets pre.1.0) done.answers_step; count_le_answer_line = done.count_le_answer_line }

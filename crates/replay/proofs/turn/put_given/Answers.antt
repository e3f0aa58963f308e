-- `replay::turn::put_given` meets its contract.
use mathlib.Core.Path.{sym}
use lib.Seq.{length-take-le}
use Rattle.replay.proofs.turn.put_given.Goals as goal

pub slice_bounds-put_answer-end : goal.slice_bounds-put_answer-end
slice_bounds-put_answer-end c = sym (length-take-le _ _ c.requires.tek_there)

pub slice_bounds-put_answer-end-2 : goal.slice_bounds-put_answer-end-2
slice_bounds-put_answer-end-2 c = sym (length-take-le _ _ c.requires.vector_there)

pub slice_bounds-put_answer-end-3 : goal.slice_bounds-put_answer-end-3
slice_bounds-put_answer-end-3 c = sym (length-take-le _ _ c.requires.frame_there)

pub slice_bounds-put_answer-end-4 : goal.slice_bounds-put_answer-end-4
slice_bounds-put_answer-end-4 c = sym (length-take-le _ _ c.requires.sent_there)

-- Which step of demand 3's a call is (demand_plant/specs/World.antt): its numbers, the octets, the AUTH-Key and the message keys lent with it, and
-- the lengths of the slices lent for TEK, vector, messages and a frame's octets.
use Rattle.std.specs.Prelude.{List, ℕ}
use Rattle.replay_read.specs.declared.calls.Kind.{Kind}
use Rattle.replay_read.specs.declared.calls.Kind.TheVariants.{List as KindList, Clock, Established, Reauth, Up, Down, SealDown, SealUp, OpenUp, OpenDown, SealDownFrame, SealUpFrame, OpenUpFrame, OpenDownFrame}
use Rattle.replay_read.specs.declared.calls.Call.{Call}
use Rattle.demand_plant.specs.World.{World, Step, list, clock, established, reauth, up, down, seal_down, seal_up, open_up_of, open_down, seal_down_frame_of, seal_up_frame_of, open_up_frame_of, open_down_frame_of}
use Rattle.replay_apply.specs.declared.ends.Ends.{Ends}

-- Both ends as the plant has them
abbrev pub world_of : Ends → World
world_of e = record { head = e.head; records = e.records; modem = e.modem }

abbrev pub ends_of : World → Ends
ends_of w = record { head = w.head; records = w.records; modem = w.modem }

abbrev pub step_by : Kind → Call → List ℕ → List ℕ → List ℕ → List ℕ → ℕ → ℕ → ℕ → ℕ → Step
step_by KindList c octets auth read write tek vector out frame = list c.address c.word c.listing octets
step_by Clock c octets auth read write tek vector out frame = clock c.second octets write out
step_by Established c octets auth read write tek vector out frame = established out
step_by Reauth c octets auth read write tek vector out frame = reauth out
step_by Up c octets auth read write tek vector out frame = up c.address read write octets auth out
step_by Down c octets auth read write tek vector out frame = down read write octets out
step_by SealDown c octets auth read write tek vector out frame = seal_down c.address c.said tek vector
step_by SealUp c octets auth read write tek vector out frame = seal_up c.said tek vector
step_by OpenUp c octets auth read write tek vector out frame = open_up_of c.word c.address c.said c.number write tek vector out
step_by OpenDown c octets auth read write tek vector out frame = open_down c.word c.address c.said c.number write tek vector out
step_by SealDownFrame c octets auth read write tek vector out frame = seal_down_frame_of c.address c.said octets frame
step_by SealUpFrame c octets auth read write tek vector out frame = seal_up_frame_of c.said octets frame
step_by OpenUpFrame c octets auth read write tek vector out frame = open_up_frame_of c.word c.address c.said c.number octets write frame out
step_by OpenDownFrame c octets auth read write tek vector out frame = open_down_frame_of c.word c.address c.said c.number octets write frame out

abbrev pub step_for : Call → List ℕ → List ℕ → List ℕ → List ℕ → ℕ → ℕ → ℕ → ℕ → Step
step_for c octets auth read write tek vector out frame = step_by c.kind c octets auth read write tek vector out frame

-- A line that is a call, and its answer: the call's step is demand 3's, with slices of 16, 16 and 342 octets lent for TEK, vector and messages, and for a
-- frame one as long as the line's octets.
use Rattle.std.specs.Prelude.{◌≡◌, Option, None, Some, List, [], ◌∷◌, ℕ, ◌+◌, ◌*◌, ◌≤◌, length, take, drop, replicate}
use Rattle.key_traffic.specs.Octets.{overlay}
use Rattle.replay_read.specs.declared.calls.Kind.{Kind}
use Rattle.demand_plant.specs.World.{Step, step_of}
use Rattle.text.specs.Hex.{octets_value}
use Rattle.replay_fields.specs.declared.octets.Place.{Place}
use Rattle.replay_read.specs.declared.kept.ReadCall.{ReadCall}
use Rattle.replay_read.specs.Call.{LineCall, call_of}
use Rattle.replay_answer.specs.Answer.{answer_text, Room}
use Rattle.replay_apply.specs.declared.ends.Ends.{Ends}
use Rattle.replay_apply.specs.declared.ends.Applied.{Applied}
use Rattle.replay_apply.specs.Steps.{world_of, ends_of, step_for}
use Rattle.replay_apply.specs.Gave.{gave_of}

abbrev pub step_for_line : LineCall → Step
step_for_line t = step_for t.call t.octets t.auth t.read t.write 16 16 342 (length t.octets)

-- ---- the same by places of the line: the octets that the digits there say, and the step of a call whose octets and keys stand at its places
abbrev pub octets_at_of : List ℕ → Place → List ℕ
octets_at_of line p = octets_value (take (2 * p.count) (drop p.at line))

abbrev pub Within : Place → List ℕ → Type 0
Within p line = p.at + 2 * p.count ≤ length line

abbrev pub step_read : ReadCall → List ℕ → Step
step_read r line =
    step_for r.call (octets_at_of line r.octets) (octets_at_of line r.auth) (octets_at_of line r.read) (octets_at_of line r.write) 16 16 342
    (length (octets_at_of line r.octets))

-- The line has the digits of each
pub record PlacesFit (r : ReadCall) (line : List ℕ) : Type 0 where
  pub octets : Within r.octets line
  pub auth : Within r.auth line
  pub read : Within r.read line
  pub write : Within r.write line

-- "?" and a line feed: the line is no call
abbrev pub no_call_text : List ℕ
no_call_text = 63 ∷ 10 ∷ []

-- The answer to a step of a kind: its number, of a sealing the key's number, the TEK, as many octets of the slice lent for the vector as the TEK
-- has, a frame's octets, and what was sent
unfoldable pub answered_by_of : Ends → Step → Kind → List ℕ
answered_by_of e s k =
    answer_text k (step_of (world_of e) s).given.number (gave_of (world_of e) s).key.0
    (gave_of (world_of e) s).out.tek
    (take (length (gave_of (world_of e) s).out.tek) (overlay (replicate 16 0) (gave_of (world_of e) s).out.vector))
    (gave_of (world_of e) s).frame
    (gave_of (world_of e) s).sent

unfoldable pub ends_after : Ends → Step → Ends
ends_after e s = ends_of (step_of (world_of e) s).world

abbrev pub turn_text_for : Ends → Option LineCall → List ℕ
turn_text_for e None = no_call_text
turn_text_for e (Some t) = answered_by_of e (step_for_line t) t.call.kind

abbrev pub turn_ends_for : Ends → Option LineCall → Ends
turn_ends_for e None = e
turn_ends_for e (Some t) = ends_after e (step_for_line t)

abbrev pub turn_text : Ends → List ℕ → List ℕ
turn_text e line = turn_text_for e (call_of line)

abbrev pub turn_ends : Ends → List ℕ → Ends
turn_ends e line = turn_ends_for e (call_of line)

-- ---- the answer by what a call left at the front of the slices lent to it
pub record GivenFits (a : Applied) (tek vector frame sent out : List ℕ) : Type 0 where
  pub tek_there : a.width ≤ length tek
  pub vector_there : a.width ≤ length vector
  pub frame_there : a.frame ≤ length frame
  pub sent_there : a.count ≤ length sent
  pub room : Room (take a.width tek) (take a.width vector) (take a.frame frame) (take a.count sent) out

abbrev pub given_text : Kind → Applied → List ℕ → List ℕ → List ℕ → List ℕ → List ℕ
given_text k a tek vector frame sent =
    answer_text k a.number a.key.0 (take a.width tek) (take a.width vector) (take a.frame frame) (take a.count sent)

abbrev pub PutsGiven : Kind → Applied → List ℕ → List ℕ → List ℕ → List ℕ → List ℕ → ℕ → List ℕ → Type 0
PutsGiven k a tek vector frame sent out count out-after =
    (count ≡ length (given_text k a tek vector frame sent))
    × (out-after ≡ overlay out (given_text k a tek vector frame sent))

-- ---- what each contract says: the ends after a step or a line, how many characters are answered, and every octet of the slice lent for them
abbrev pub AnswersStep : Ends → Step → Kind → List ℕ → Ends → ℕ → List ℕ → Type 0
AnswersStep e s k out ends count out-after =
    (ends ≡ ends_after e s)
    × (count ≡ length (answered_by_of e s k))
    × (out-after ≡ overlay out (answered_by_of e s k))

abbrev pub AnswersLine : Ends → List ℕ → List ℕ → Ends → ℕ → List ℕ → Type 0
AnswersLine e line out ends count out-after =
    (ends ≡ turn_ends e line)
    × (count ≡ length (turn_text e line))
    × (out-after ≡ overlay out (turn_text e line))

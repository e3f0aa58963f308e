-- What opening at the head-end hands back of what it gives: the octets themselves are in the lent slices, their counts here.
use Rattle.std.specs.Prelude.{List, ◌≡◌, ℕ, ◌≤◌, length}
use Rattle.key_traffic.specs.Octets.{overlay}
use Rattle.questions.specs.Answer.{Answer}
use Rattle.questions.specs.Refusal.{answer_number_of}
use Rattle.headend_frames.specs.declared.frames.OpenedCall.{OpenedCall}
use Rattle.headend_frames.specs.Frames.{HeadOpened}

abbrev pub open_called_of : HeadOpened → OpenedCall
open_called_of o = record { answer = o.answer; state = o.state; width = length o.out.tek; count = length o.invalid }

-- What writing asks once opening is answered; `FrameCallLaws` shows that an answer of document 01's questions has it
pub record Openable (a : Answer) (said : ℕ) (write : List ℕ) (tek vector lent : ℕ) : Type 0 where
  pub key : answer_number_of a ≡ 0 → (16 ≤ tek) × (16 ≤ vector)
  pub invalid_fits : answer_number_of a ≡ 13 → (said ≤ 16383) × (length write ≡ 20) × (40 ≤ lent)

-- The answer with the state, and every octet of the three lent slices: what is given at the front of each, the rest as it was
abbrev pub OpenGives : HeadOpened → List ℕ → List ℕ → List ℕ → OpenedCall → List ℕ → List ℕ → List ℕ → Type 0
OpenGives g tek vector invalid r tek-after vector-after invalid-after =
    (r ≡ open_called_of g)
    × (tek-after ≡ overlay tek g.out.tek)
    × (vector-after ≡ overlay vector g.out.vector)
    × (invalid-after ≡ overlay invalid g.invalid)

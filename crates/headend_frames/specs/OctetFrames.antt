-- Frames sealed and opened in their octets at the head-end (document 02, M-103; questions 1, 2, 15, 10 and 13). What an answer does to the head-end, and
-- which key it is about, is as in the calls that give keys.
use Rattle.std.specs.Prelude.{Bool, true, ◌&&◌, List, [], ◌∷◌, ◌≡◌, ℕ, ◌≤◌, leb, eqb, length}
use Rattle.key_traffic.specs.Octets.{overlay}
use Rattle.key_traffic.specs.declared.numbers.TekNumber.{TekNumber}
use Rattle.questions.specs.Answer.{Answer}
use Rattle.questions.specs.declared.refusal.Refusal.TheVariants.{OutOfLimits, WrongLength, UnknownSaid, NoKeyForFrame, ShortFrame}
use Rattle.key_traffic.specs.Numbers.{tek_in_range_of}
use Rattle.key_traffic.specs.Suites.{width_of}
use Rattle.questions.specs.Questions.{first_no}
use Rattle.questions.specs.Refusal.{answer_number_of}
use Rattle.key_traffic.specs.Frame.{opens}
use Rattle.key_traffic.specs.Sealing.{sealed_for}
use Rattle.frame_octets.specs.Framed.{frame_long_of, suite_seals_of, SealedFrame, sealed_frame_of, opened_octets}
use Rattle.key_association.specs.declared.search.Found.{Found}
use Rattle.message_digest.specs.Digest.{message_key_fits_of}
use Rattle.headend_state.specs.declared.state.HeadEnd.{HeadEnd}
use Rattle.headend_state.specs.Entries.{known_of}
use Rattle.headend_frames.specs.declared.frames.OpenedCall.{OpenedCall}
use Rattle.headend_frames.specs.FrameQuestions.{is_own_of, frame_fits_of, opening_in}
use Rattle.headend_frames.specs.Frames.{HeadOpened, opened_for}

-- The answers, with the lengths of the frame and of the lent slices. The suite is that of the record that was found, which question 1 holds against the
-- entry's; `keys` says whether the message key has its length
unfoldable pub seal_frame_answer_of : HeadEnd → ℕ → ℕ → Found → ℕ → ℕ → ℕ → ℕ → Answer
seal_frame_answer_of h bad len s address said frame lent =
    first_no
    (record { refusal = OutOfLimits; met = frame_fits_of h bad len s address said }
    ∷ record { refusal = WrongLength; met = leb h.used len && leb frame lent }
    ∷ record { refusal = ShortFrame; met = frame_long_of frame }
    ∷ record { refusal = UnknownSaid; met = is_own_of (known_of h address) said && suite_seals_of s.held.suite }
    ∷ [])

unfoldable pub open_frame_answer_of : HeadEnd → ℕ → ℕ → Found → ℕ → ℕ → ℕ → TekNumber → Bool → ℕ → ℕ → ℕ → Answer
open_frame_answer_of h bad len s direction address said number keys frame lent invalid =
    first_no
    (record { refusal = OutOfLimits; met = frame_fits_of h bad len s address said && eqb direction 0 && tek_in_range_of number }
    ∷ record { refusal = WrongLength; met = keys && leb h.used len && leb frame lent && leb 40 invalid }
    ∷ record { refusal = ShortFrame; met = frame_long_of frame }
    ∷ record { refusal = UnknownSaid; met = is_own_of (known_of h address) said && suite_seals_of s.held.suite }
    ∷ record { refusal = NoKeyForFrame; met = opens (opening_in h s number) }
    ∷ [])

-- ---- sealing: with the older key
unfoldable pub sealed_frame_with : HeadEnd → ℕ → ℕ → Found → ℕ → ℕ → List ℕ → ℕ → SealedFrame
sealed_frame_with h bad len s address said frame lent =
    sealed_frame_of (sealed_for (seal_frame_answer_of h bad len s address said (length frame) lent) (width_of s.held.suite) s.held.older) frame

-- ---- opening: the answer, the head-end after it, the key that opens the frame, which is not handed out, a TEK Invalid's octets; and the frame's octets
pub record HeadOpenedFrame : Type 0 where
  pub opened : HeadOpened
  pub octets : List ℕ

abbrev pub opened_frame_of : HeadOpened → List ℕ → HeadOpenedFrame
opened_frame_of o frame = record { opened = o; octets = opened_octets o.answer o.out frame }

unfoldable pub opened_frame_with : HeadEnd → ℕ → ℕ → Found → ℕ → ℕ → ℕ → TekNumber → List ℕ → List ℕ → ℕ → ℕ → HeadOpenedFrame
opened_frame_with h bad len s direction address said number frame write lent invalid =
    opened_frame_of
    (opened_for (open_frame_answer_of h bad len s direction address said number (message_key_fits_of write) (length frame) lent invalid) h s address said number write)
    frame

-- What it hands back: the width is that of the octets written
abbrev pub open_frame_called_of : HeadOpenedFrame → OpenedCall
open_frame_called_of o =
    record { answer = o.opened.answer; state = o.opened.state; width = length o.octets; count = length o.opened.invalid }

-- What writing asks once opening is answered; `OctetFrameLaws` shows that an answer of the questions has it
pub record FrameOpenable (a : Answer) (h : HeadEnd) (s : Found) (said : ℕ) (number : TekNumber) (write : List ℕ) (frame lent invalid : ℕ) : Type 0 where
  pub frame-fits : answer_number_of a ≡ 0 → (opens (opening_in h s number) ≡ true) × (width_of s.held.suite ≡ 16) × (12 ≤ frame) × (frame ≤ lent)
  pub invalid_fits : answer_number_of a ≡ 13 → (said ≤ 16383) × (length write ≡ 20) × (40 ≤ invalid)

-- The answer with the state, and every octet of the two lent slices: what is given at the front of each, the rest as it was
abbrev pub OpenFrameGives : HeadOpenedFrame → List ℕ → List ℕ → OpenedCall → List ℕ → List ℕ → Type 0
OpenFrameGives g opened invalid r opened-after invalid-after =
    (r ≡ open_frame_called_of g)
    × (opened-after ≡ overlay opened g.octets)
    × (invalid-after ≡ overlay invalid g.opened.invalid)

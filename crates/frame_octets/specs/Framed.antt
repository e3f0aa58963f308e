-- Frames sealed and opened in their octets (document 02, M-103): what either end asks of one, and what it gives.
use Rattle.std.specs.Prelude.{◌≡◌, Bool, cond, List, [], ℕ, leb, eqb, length}
use Rattle.questions.specs.Answer.{Answer, Done, Refused}
use Rattle.questions.specs.declared.refusal.Refusal.TheVariants.{OutOfLimits, WrongLength, ShortFrame, UnknownSaid}
use Rattle.key_traffic.specs.Octets.{overlay}
use Rattle.key_traffic.specs.Sealing.{KeyOut, Sealed}
use Rattle.key_traffic.specs.declared.sealing.SealedCall.{SealedCall}
use Rattle.cipher_cbc.specs.Cbc.{seal_aes, open_aes}

-- Question 15: a frame has its two addresses, 12 octets
abbrev pub frame_long_of : ℕ → Bool
frame_long_of frame = leb 12 frame

-- A part of question 10: the cipher is that of suite 768 alone
abbrev pub suite_seals_of : ℕ → Bool
suite_seals_of suite = eqb suite 768

-- What either end asks first of a frame's octets: limits (1), lengths (2), 12 octets (15), the SAID (10). The first that is not met refuses; where all are,
-- the answer is that to the questions after them
abbrev pub frame_asked_of : Bool → Bool → Bool → Bool → Answer → Answer
frame_asked_of limits lengths long said later =
    cond limits (cond lengths (cond long (cond said later (Refused UnknownSaid)) (Refused ShortFrame)) (Refused WrongLength)) (Refused OutOfLimits)

-- A frame's octets sealed with a TEK and a vector, and opened with them
abbrev pub seal_under_of : KeyOut → List ℕ → List ℕ
seal_under_of k frame = seal_aes k.tek k.vector frame

abbrev pub open_under_of : KeyOut → List ℕ → List ℕ
open_under_of k frame = open_aes k.tek k.vector frame

-- Octets that are given where nothing is refused
abbrev pub given_if : Answer → List ℕ → List ℕ
given_if Done octets = octets
given_if (Refused r) octets = []

-- A sealing: the answer, the key's number, the TEK and vector that the octets are sealed with, which are not handed out, and the octets
pub record SealedFrame : Type 0 where
  pub sealed : Sealed
  pub octets : List ℕ

abbrev pub sealed_frame_of : Sealed → List ℕ → SealedFrame
sealed_frame_of s frame = record { sealed = s; octets = given_if s.answer (seal_under_of s.out frame) }

-- What an opening gives of a frame, by its answer and the TEK and vector that open it
abbrev pub opened_octets : Answer → KeyOut → List ℕ → List ℕ
opened_octets a k frame = given_if a (open_under_of k frame)

-- What sealing hands back: the octets themselves are in the lent slice
abbrev pub seal_frame_called_of : SealedFrame → SealedCall
seal_frame_called_of s = record { answer = s.sealed.answer; number = s.sealed.number; width = length s.octets }

-- With the lent slice after it: the sealed octets at the front, the rest as it was
abbrev pub FrameSealGives : SealedFrame → List ℕ → SealedCall → List ℕ → Type 0
FrameSealGives s out r out-after =
    (r ≡ seal_frame_called_of s)
    × (out-after ≡ overlay out s.octets)

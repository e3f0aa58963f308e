-- Frames sealed and opened in their octets at the modem (document 02, M-103; questions 1, 2, 15, 10, 13 and 14). What an answer does to the modem, and
-- which key it is about, is as in the calls that give keys.
use Rattle.std.specs.Prelude.{Bool, ◌&&◌, List, [], ◌∷◌, ◌≡◌, ℕ, leb, eqb, length}
use Rattle.key_traffic.specs.Addresses.{said_fits_of, address_fits_of}
use Rattle.key_traffic.specs.Octets.{overlay}
use Rattle.key_traffic.specs.declared.numbers.TekNumber.{TekNumber}
use Rattle.questions.specs.Answer.{Answer}
use Rattle.questions.specs.declared.refusal.Refusal.TheVariants.{OutOfLimits, WrongLength, UnknownSaid, NoKeyForFrame, NoKeyToSeal, ShortFrame}
use Rattle.key_traffic.specs.Numbers.{tek_in_range_of}
use Rattle.key_traffic.specs.Suites.{width_of}
use Rattle.questions.specs.Questions.{first_no}
use Rattle.key_traffic.specs.Sealing.{sealed_for}
use Rattle.frame_octets.specs.Framed.{frame_long_of, suite_seals_of, SealedFrame, sealed_frame_of, opened_octets}
use Rattle.modem_tek.specs.declared.tek.Tek.{Tek}
use Rattle.modem_steps.specs.declared.state.Modem.{Modem}
use Rattle.modem_receive.specs.Receive.{is_known_of}
use Rattle.modem_limits.specs.Limits.{modem_fits_of}
use Rattle.message_digest.specs.Digest.{message_key_fits_of}
use Rattle.modem_frames.specs.declared.rules.OpenedCall.{OpenedCall}
use Rattle.modem_frames.specs.FrameRules.{pair_seals, pair_opens}
use Rattle.modem_frames.specs.Frames.{machine_of, ModemOpened, opened_for}
use Rattle.modem_frames.specs.FrameCalled.{opened_call_of}

-- The answers, asked of the SAID's machine, with the lengths of the frame and of the lent slices. `keys` says whether the message key has its length
unfoldable pub seal_frame_asked_of : Modem → ℕ → Tek → ℕ → ℕ → Answer
seal_frame_asked_of m said t frame lent =
    first_no
    (record { refusal = OutOfLimits; met = modem_fits_of m && said_fits_of said }
    ∷ record { refusal = WrongLength; met = leb frame lent }
    ∷ record { refusal = ShortFrame; met = frame_long_of frame }
    ∷ record { refusal = UnknownSaid; met = is_known_of m said && suite_seals_of t.suite }
    ∷ record { refusal = NoKeyToSeal; met = pair_seals m.clock t.pair }
    ∷ [])

unfoldable pub open_frame_asked_of : Modem → ℕ → ℕ → ℕ → TekNumber → Tek → Bool → ℕ → ℕ → ℕ → Answer
open_frame_asked_of m direction address said number t keys frame lent messages =
    first_no
    (record {
      refusal = OutOfLimits;
      met = modem_fits_of m && eqb direction 1 && address_fits_of address && said_fits_of said && tek_in_range_of number;
    }
    ∷ record { refusal = WrongLength; met = keys && leb frame lent && leb 216 messages }
    ∷ record { refusal = ShortFrame; met = frame_long_of frame }
    ∷ record { refusal = UnknownSaid; met = eqb address m.address && (is_known_of m said && suite_seals_of t.suite) }
    ∷ record { refusal = NoKeyForFrame; met = pair_opens m.clock number t.pair }
    ∷ [])

-- ---- sealing: with the newer key
unfoldable pub seal_frame_answer_of : Modem → ℕ → ℕ → ℕ → Answer
seal_frame_answer_of m said frame lent = seal_frame_asked_of m said (machine_of m said) frame lent

unfoldable pub seal_frame_value : Modem → ℕ → List ℕ → ℕ → SealedFrame
seal_frame_value m said frame lent =
    sealed_frame_of (sealed_for (seal_frame_answer_of m said (length frame) lent) (width_of (machine_of m said).suite) (machine_of m said).pair.newer) frame

-- ---- opening: with whichever held key has the frame's number
unfoldable pub open_frame_answer_of : Modem → ℕ → ℕ → ℕ → TekNumber → List ℕ → ℕ → ℕ → ℕ → Answer
open_frame_answer_of m direction address said number write frame lent messages =
    open_frame_asked_of m direction address said number (machine_of m said) (message_key_fits_of write) frame lent messages

-- What opening gives: the answer, the modem after it, the key that opens the frame, which is not handed out, the messages that go out; and the frame's
-- octets
pub record ModemOpenedFrame : Type 0 where
  pub opened : ModemOpened
  pub octets : List ℕ

abbrev pub opened_frame_of : ModemOpened → List ℕ → ModemOpenedFrame
opened_frame_of o frame = record { opened = o; octets = opened_octets o.answer o.out frame }

unfoldable pub open_frame_value : Modem → ℕ → ℕ → ℕ → TekNumber → List ℕ → List ℕ → ℕ → ℕ → ModemOpenedFrame
open_frame_value m direction address said number frame write lent messages =
    opened_frame_of (opened_for (open_frame_answer_of m direction address said number write (length frame) lent messages) m said number write) frame

-- What it hands back: the width is that of the octets written
abbrev pub open_frame_called_of : ModemOpenedFrame → OpenedCall
open_frame_called_of o = opened_call_of o.opened.answer o.opened.modem (length o.octets) (length o.opened.sent)

-- The answer with the state, and every octet of the two lent slices: what is given at the front of each, the rest as it was
abbrev pub OpenFrameGives : ModemOpenedFrame → List ℕ → List ℕ → OpenedCall → List ℕ → List ℕ → Type 0
OpenFrameGives g opened out r opened-after out-after =
    (r ≡ open_frame_called_of g)
    × (opened-after ≡ overlay opened g.octets)
    × (out-after ≡ overlay out g.opened.sent)

-- Frames at the modem (document 01, "Modem: TEK machine", questions 1, 2, 10, 13 and 14).
use Rattle.std.specs.Prelude.{Bool, cond, ◌&&◌, List, [], ◌∷◌, ℕ, leb, eqb}
use Rattle.key_traffic.specs.Addresses.{said_fits_of, address_fits_of}
use Rattle.key_traffic.specs.declared.numbers.TekNumber.{TekNumber}
use Rattle.questions.specs.Answer.{Answer, Done, Refused}
use Rattle.questions.specs.declared.refusal.Refusal.TheVariants.{OutOfLimits, WrongLength, UnknownSaid, NoKeyForFrame, NoKeyToSeal}
use Rattle.key_traffic.specs.Numbers.{tek_in_range_of}
use Rattle.key_traffic.specs.Suites.{width_of}
use Rattle.questions.specs.Questions.{first_no}
use Rattle.questions.specs.Refusal.{answer_number_of}
use Rattle.key_traffic.specs.Sealing.{KeyOut, no_out_of, Sealed, sealed_for, opened_by_of}
use Rattle.modem_tek.specs.declared.tek.Tek.{Tek}
use Rattle.modem_steps.specs.declared.state.Modem.{Modem}
use Rattle.modem_steps.specs.State.{slot_at, starting}
use Rattle.modem_steps.specs.Slots.{slot_of_said_of, deliver}
use Rattle.modem_receive.specs.Receive.{is_known_of}
use Rattle.modem_limits.specs.Limits.{modem_fits_of}
use Rattle.message_digest.specs.Digest.{message_key_fits_of}
use Rattle.modem_calls.specs.Messages.{out_octets}
use Rattle.modem_frames.specs.FrameRules.{pair_seals, pair_opening_of, pair_opens, counted_by_of}

-- The machine of a SAID
abbrev pub machine_of : Modem → ℕ → Tek
machine_of m said = slot_at m (slot_of_said_of m said)

-- The octets that the frame decision on a machine's pair gives
abbrev pub machine_out : ℕ → TekNumber → Tek → KeyOut
machine_out clock number t = opened_by_of (pair_opening_of clock number t.pair) (width_of t.suite) t.pair.older t.pair.newer

-- Question 1 of an opening. A frame comes down to the modem, direction 1
abbrev pub frame_fits_of : Modem → ℕ → ℕ → ℕ → TekNumber → Bool
frame_fits_of m direction address said number =
    modem_fits_of m && eqb direction 1 && address_fits_of address && said_fits_of said && tek_in_range_of number

-- The answers, asked of the SAID's machine: 1, 2, 10 and 14 of a sealing, 1, 2, 10 and 13 of an opening. A frame comes down to the modem,
-- direction 1; its address is the modem's own. `keys` says whether the message key has its length
unfoldable pub seal_asked_of : Modem → ℕ → Tek → ℕ → ℕ → Answer
seal_asked_of m said t tek vector =
    first_no
    (record { refusal = OutOfLimits; met = modem_fits_of m && said_fits_of said }
    ∷ record { refusal = WrongLength; met = leb 16 tek && leb 16 vector }
    ∷ record { refusal = UnknownSaid; met = is_known_of m said }
    ∷ record { refusal = NoKeyToSeal; met = pair_seals m.clock t.pair }
    ∷ [])

unfoldable pub open_asked_of : Modem → ℕ → ℕ → ℕ → TekNumber → Tek → Bool → ℕ → ℕ → ℕ → Answer
open_asked_of m direction address said number t keys tek vector lent =
    first_no
    (record {
      refusal = OutOfLimits;
      met = modem_fits_of m && eqb direction 1 && address_fits_of address && said_fits_of said && tek_in_range_of number;
    }
    ∷ record { refusal = WrongLength; met = keys && leb 16 tek && leb 16 vector && leb 216 lent }
    ∷ record { refusal = UnknownSaid; met = eqb address m.address && is_known_of m said }
    ∷ record { refusal = NoKeyForFrame; met = pair_opens m.clock number t.pair }
    ∷ [])

-- ---- sealing: with the newer key
abbrev pub can_seal_of : Modem → ℕ → Bool
can_seal_of m said = pair_seals m.clock (machine_of m said).pair

unfoldable pub seal_answer_of : Modem → ℕ → ℕ → ℕ → Answer
seal_answer_of m said tek vector = seal_asked_of m said (machine_of m said) tek vector

unfoldable pub seal_of : Modem → ℕ → ℕ → ℕ → Sealed
seal_of m said tek vector = sealed_for (seal_answer_of m said tek vector) (width_of (machine_of m said).suite) (machine_of m said).pair.newer

-- ---- opening: with whichever held key has the frame's number
abbrev pub can_open_of : Modem → ℕ → TekNumber → Bool
can_open_of m said number = pair_opens m.clock number (machine_of m said).pair

unfoldable pub open_answer_of : Modem → ℕ → ℕ → ℕ → TekNumber → List ℕ → ℕ → ℕ → ℕ → Answer
open_answer_of m direction address said number write tek vector lent =
    open_asked_of m direction address said number (machine_of m said) (message_key_fits_of write) tek vector lent

-- What opening gives: the answer, the modem after it, the key's octets, and the messages that go out
pub record ModemOpened : Type 0 where
  pub answer : Answer
  pub modem : Modem
  pub out : KeyOut
  pub sent : List ℕ

-- On 13 the SAID's machine takes event 5, and what that sends goes out, under the message key of what is written
abbrev pub missed : Bool → Answer → Modem → ℕ → List ℕ → ModemOpened
missed is13 a m said write =
    cond is13
    (record {
      answer = a;
      modem = counted_by_of 13 (deliver (starting m) (slot_of_said_of m said) 5).modem;
      out = no_out_of;
      sent = out_octets write (deliver (starting m) (slot_of_said_of m said) 5).out;
    })
    (record { answer = a; modem = counted_by_of (answer_number_of a) m; out = no_out_of; sent = [] })

abbrev pub opened_for : Answer → Modem → ℕ → TekNumber → List ℕ → ModemOpened
opened_for Done m said number write =
    record {
      answer = Done;
      modem = counted_by_of 0 m;
      out = machine_out m.clock number (machine_of m said);
      sent = [];
    }
opened_for (Refused r) m said number write = missed (eqb (answer_number_of (Refused r)) 13) (Refused r) m said write

unfoldable pub open_of : Modem → ℕ → ℕ → ℕ → TekNumber → List ℕ → ℕ → ℕ → ℕ → ModemOpened
open_of m direction address said number write tek vector lent =
    opened_for (open_answer_of m direction address said number write tek vector lent) m said number write

-- What opening hands back at the modem, and the machine that its code asks.
use Rattle.std.specs.Prelude.{List, ◌≡◌, cond, ℕ, length}
use Rattle.key_traffic.specs.Octets.{overlay}
use Rattle.questions.specs.Answer.{Answer, Refused}
use Rattle.questions.specs.declared.refusal.Refusal.{Refusal}
use Rattle.key_traffic.specs.declared.sealing.SealedCall.{SealedCall}
use Rattle.modem_tek.specs.declared.tek.Tek.{Tek}
use Rattle.modem_steps.specs.declared.state.Modem.{Modem}
use Rattle.modem_steps.specs.State.{no_tek_of}
use Rattle.modem_receive.specs.Receive.{is_known_of}
use Rattle.modem_frames.specs.declared.rules.OpenedCall.{OpenedCall}
use Rattle.modem_frames.specs.Frames.{machine_of, ModemOpened}

-- A sealing that is refused gives no key
abbrev pub not_sealed_of : Refusal → SealedCall
not_sealed_of r = record { answer = Refused r; number = record { 0 = 0 }; width = 0 }

-- The width is that of the octets written
abbrev pub opened_call_of : Answer → Modem → ℕ → ℕ → OpenedCall
opened_call_of answer modem width count = record { answer = answer; modem = modem; width = width; count = count }

abbrev pub open_called_of : ModemOpened → OpenedCall
open_called_of o = opened_call_of o.answer o.modem (length o.out.tek) (length o.sent)

-- The machine of a SAID that is known; where it is not, one that holds nothing, which no answer depends on
unfoldable pub known_machine : Modem → ℕ → Tek
known_machine m said = cond (is_known_of m said) (machine_of m said) no_tek_of

-- The answer with the state, and every octet of the three lent slices: what is given at the front of each, the rest as it was
abbrev pub OpenGives : ModemOpened → List ℕ → List ℕ → List ℕ → OpenedCall → List ℕ → List ℕ → List ℕ → Type 0
OpenGives g tek vector out r tek-after vector-after out-after =
    (r ≡ open_called_of g)
    × (tek-after ≡ overlay tek g.out.tek)
    × (vector-after ≡ overlay vector g.out.vector)
    × (out-after ≡ overlay out g.sent)

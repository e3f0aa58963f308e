-- The modem for C: what its calls hand back, with document 01's number for the answer.
use Rattle.std.specs.Prelude.{◌≡◌, List, ℕ}
use Rattle.modem_frames.specs.FrameCalled.{open_called_of}
use Rattle.modem_frames.specs.Frames.{ModemOpened}
use Rattle.modem_frames.specs.OctetFrames.{ModemOpenedFrame, open_frame_called_of}
use Rattle.frame_octets.specs.Framed.{SealedFrame, seal_frame_called_of}
use Rattle.key_traffic.specs.Sealing.{Sealed, seal_called_of}
use Rattle.key_traffic.specs.Octets.{overlay}
use Rattle.key_traffic.specs.declared.sealing.SealedCall.{SealedCall}
use Rattle.questions.specs.Refusal.{answer_number_of}
use Rattle.modem_steps.specs.declared.state.Called.{Called}
use Rattle.modem_frames.specs.declared.rules.OpenedCall.{OpenedCall}
use Rattle.modem_calls.specs.Calls.{Result}
use Rattle.curlewreel.specs.declared.modem_values.ModemCall.{ModemCall}
use Rattle.curlewreel.specs.declared.modem_values.FrameSealed.{FrameSealed}
use Rattle.curlewreel.specs.declared.modem_values.ModemOpening.{ModemOpening}

abbrev pub modem_call_of : Called → ModemCall
modem_call_of c = record { number = answer_number_of c.answer; count = c.count; modem = c.modem }

abbrev pub frame_sealed_of : SealedCall → FrameSealed
frame_sealed_of c = record { number = answer_number_of c.answer; key = c.number.0; width = c.width }

abbrev pub modem_opening_of : OpenedCall → ModemOpening
modem_opening_of c = record { number = answer_number_of c.answer; width = c.width; count = c.count; modem = c.modem }

-- ---- what each function's contract says: what it hands back, and every octet of the lent slices

abbrev pub ModemGives : Result → List ℕ → ModemCall → List ℕ → Type 0
ModemGives g out r out-after =
    (r ≡ modem_call_of g.called)
    × (out-after ≡ overlay out g.written)

-- Of either end
abbrev pub FrameSeals : Sealed → List ℕ → List ℕ → FrameSealed → List ℕ → List ℕ → Type 0
FrameSeals s tek vector r tek-after vector-after =
    (r ≡ frame_sealed_of (seal_called_of s))
    × (tek-after ≡ overlay tek s.out.tek)
    × (vector-after ≡ overlay vector s.out.vector)

abbrev pub ModemOpens : ModemOpened → List ℕ → List ℕ → List ℕ → ModemOpening → List ℕ → List ℕ → List ℕ → Type 0
ModemOpens g tek vector out r tek-after vector-after out-after =
    (r ≡ modem_opening_of (open_called_of g))
    × (tek-after ≡ overlay tek g.out.tek)
    × (vector-after ≡ overlay vector g.out.vector)
    × (out-after ≡ overlay out g.sent)

-- A frame's octets, sealed at either end, and opened at the modem
abbrev pub OctetsSeal : SealedFrame → List ℕ → FrameSealed → List ℕ → Type 0
OctetsSeal s sealed r sealed-after =
    (r ≡ frame_sealed_of (seal_frame_called_of s))
    × (sealed-after ≡ overlay sealed s.octets)

abbrev pub ModemOpensOctets : ModemOpenedFrame → List ℕ → List ℕ → ModemOpening → List ℕ → List ℕ → Type 0
ModemOpensOctets g opened out r opened-after out-after =
    (r ≡ modem_opening_of (open_frame_called_of g))
    × (opened-after ≡ overlay opened g.octets)
    × (out-after ≡ overlay out g.opened.sent)

-- What a call of the modem hands to C, from what the call itself gives.
use mathlib.Core.Path.{◌≡◌, ◌∙◌, ap}
use Rattle.key_traffic.specs.declared.sealing.SealedCall.{SealedCall}
use Rattle.modem_frames.specs.declared.rules.OpenedCall.{OpenedCall}
use Rattle.curlewreel.specs.declared.modem_values.FrameSealed.{FrameSealed}
use Rattle.curlewreel.specs.declared.modem_values.ModemOpening.{ModemOpening}
use Prim.Native.Nat.{ℕ}
use Rattle.questions.specs.Refusal.{answer_number_of}
use Rattle.modem_steps.specs.declared.state.Called.{Called}
use Rattle.curlewreel.specs.declared.modem_values.ModemCall.{ModemCall}
use Rattle.curlewreel.specs.ModemCalls.{modem_call_of, frame_sealed_of, modem_opening_of}

pub numbered : (c : Called) (n : ℕ) → n ≡ answer_number_of c.answer → record { number = n; count = c.count; modem = c.modem } ≡ modem_call_of c
numbered c n e = ap (λ k. record { number = k; count = c.count; modem = c.modem }) e

pub handed : (c d : Called) (r : ModemCall) → r ≡ modem_call_of c → c ≡ d → r ≡ modem_call_of d
handed c d r e f = e ∙ ap modem_call_of f

pub sealed : (c : SealedCall) (n : ℕ) → n ≡ answer_number_of c.answer → record { number = n; key = c.number.0; width = c.width } ≡ frame_sealed_of c
sealed c n e = ap (λ k. record { number = k; key = c.number.0; width = c.width }) e

pub sealed_as : (c d : SealedCall) (r : FrameSealed) → r ≡ frame_sealed_of c → c ≡ d → r ≡ frame_sealed_of d
sealed_as c d r e f = e ∙ ap frame_sealed_of f

pub opened : (c : OpenedCall) (n : ℕ) → n ≡ answer_number_of c.answer → record { number = n; width = c.width; count = c.count; modem = c.modem } ≡ modem_opening_of c
opened c n e = ap (λ k. record { number = k; width = c.width; count = c.count; modem = c.modem }) e

pub opened_as : (c d : OpenedCall) (r : ModemOpening) → r ≡ modem_opening_of c → c ≡ d → r ≡ modem_opening_of d
opened_as c d r e f = e ∙ ap modem_opening_of f

-- What a call of the head-end hands to C, from what the call itself gives.
use mathlib.Core.Path.{◌≡◌, ◌∙◌, ap}
use Prim.Native.Nat.{ℕ}
use Rattle.questions.specs.Refusal.{answer_number_of}
use Rattle.headend_state.specs.declared.state.Called.{Called}
use Rattle.headend_frames.specs.declared.frames.OpenedCall.{OpenedCall}
use Rattle.curlewreel.specs.declared.headend_values.HeadEndCall.{HeadEndCall}
use Rattle.curlewreel.specs.declared.headend_values.HeadEndOpening.{HeadEndOpening}
use Rattle.curlewreel.specs.HeadEndCalls.{head_end_call, head_end_opening}

pub head_numbered : (c : Called) (n : ℕ) → n ≡ answer_number_of c.answer → record { number = n; count = c.count; headend = c.state } ≡ head_end_call c
head_numbered c n e = ap (λ k. record { number = k; count = c.count; headend = c.state }) e

pub head_handed : (c d : Called) (r : HeadEndCall) → r ≡ head_end_call c → c ≡ d → r ≡ head_end_call d
head_handed c d r e f = e ∙ ap head_end_call f

pub head_opened : (c : OpenedCall) (n : ℕ) → n ≡ answer_number_of c.answer → record { number = n; width = c.width; count = c.count; headend = c.state } ≡ head_end_opening c
head_opened c n e = ap (λ k. record { number = k; width = c.width; count = c.count; headend = c.state }) e

pub head_opened_as : (c d : OpenedCall) (r : HeadEndOpening) → r ≡ head_end_opening c → c ≡ d → r ≡ head_end_opening d
head_opened_as c d r e f = e ∙ ap head_end_opening f

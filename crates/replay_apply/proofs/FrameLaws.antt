-- What the calls on a frame's octets give is what plant's step says of them.
use mathlib.Core.Path.{◌≡◌, ◌∙◌, ap}
use mathlib.Core.List.{List}
use Prim.Native.Nat.{ℕ}
use Rattle.key_traffic.specs.declared.numbers.TekNumber.{TekNumber}
use Rattle.key_traffic.specs.declared.sealing.SealedCall.{SealedCall}
use Rattle.questions.specs.Refusal.{answer_number_of}
use Rattle.frame_octets.specs.Framed.{seal_frame_called_of}
use Rattle.headend_frames.specs.declared.frames.OpenedCall.{OpenedCall}
use Rattle.headend_frames.specs.FrameCalls as HeadFrames
use Rattle.headend_frames.specs.OctetFrames.{open_frame_called_of}
use Rattle.modem_frames.specs.declared.rules.OpenedCall.{OpenedCall as ModemOpenedCall}
use Rattle.modem_frames.specs.OctetFrames as ModemOctets
use Rattle.demand_plant.specs.World.{seal_down_frame_of, seal_up_frame_of, open_up_frame_of, open_down_frame_of}
use Rattle.replay_apply.specs.declared.ends.Ends.{Ends}
use Rattle.replay_apply.specs.declared.ends.Applied.{Applied}
use Rattle.replay_apply.specs.Steps.{world_of}
use Rattle.replay_apply.specs.Applied.{applied_of}

-- ---- a sealing, at either end
abbrev sealed_as_of : ℕ → SealedCall → Ends → Applied
sealed_as_of n c e = record { number = n; key = c.number; width = 0; frame = c.width; count = 0; ends = e }

pub seal_down_frame_applied : (e : Ends) (address said : ℕ) (frame : List ℕ) (lent n : ℕ) (c : SealedCall)
    → n ≡ answer_number_of c.answer → c ≡ seal_frame_called_of (HeadFrames.seal_frame_value e.head e.records address said frame lent)
    → sealed_as_of n c e ≡ applied_of (world_of e) (seal_down_frame_of address said frame lent)
seal_down_frame_applied e address said frame lent n c p q =
    ap (λ k. sealed_as_of k c e) p ∙ ap (λ (y : SealedCall). sealed_as_of (answer_number_of y.answer) y e) q

pub seal_up_frame_applied : (e : Ends) (said : ℕ) (frame : List ℕ) (lent n : ℕ) (c : SealedCall)
    → n ≡ answer_number_of c.answer → c ≡ seal_frame_called_of (ModemOctets.seal_frame_value e.modem said frame lent)
    → sealed_as_of n c e ≡ applied_of (world_of e) (seal_up_frame_of said frame lent)
seal_up_frame_applied e said frame lent n c p q =
    ap (λ k. sealed_as_of k c e) p ∙ ap (λ (y : SealedCall). sealed_as_of (answer_number_of y.answer) y e) q

-- ---- an opening
abbrev opened_up_as : ℕ → OpenedCall → Ends → Applied
opened_up_as n c e =
    record { number = n; key = record { 0 = 0 }; width = 0; frame = c.width; count = c.count; ends = record { head = c.state; records = e.records; modem = e.modem } }

pub open_up_frame_applied : (e : Ends) (direction address said : ℕ) (number : TekNumber) (frame write : List ℕ) (lent invalid n : ℕ) (c : OpenedCall)
    → n ≡ answer_number_of c.answer → c ≡ open_frame_called_of (HeadFrames.open_frame_value e.head e.records direction address said number frame write lent invalid)
    → opened_up_as n c e ≡ applied_of (world_of e) (open_up_frame_of direction address said number frame write lent invalid)
open_up_frame_applied e direction address said number frame write lent invalid n c p q =
    ap (λ k. opened_up_as k c e) p ∙ ap (λ (y : OpenedCall). opened_up_as (answer_number_of y.answer) y e) q

abbrev opened_down_as : ℕ → ModemOpenedCall → Ends → Applied
opened_down_as n c e =
    record { number = n; key = record { 0 = 0 }; width = 0; frame = c.width; count = c.count; ends = record { head = e.head; records = e.records; modem = c.modem } }

pub open_down_frame_applied : (e : Ends) (direction address said : ℕ) (number : TekNumber) (frame write : List ℕ) (lent messages n : ℕ) (c : ModemOpenedCall)
    → n ≡ answer_number_of c.answer → c ≡ ModemOctets.open_frame_called_of (ModemOctets.open_frame_value e.modem direction address said number frame write lent messages)
    → opened_down_as n c e ≡ applied_of (world_of e) (open_down_frame_of direction address said number frame write lent messages)
open_down_frame_applied e direction address said number frame write lent messages n c p q =
    ap (λ k. opened_down_as k c e) p ∙ ap (λ (y : ModemOpenedCall). opened_down_as (answer_number_of y.answer) y e) q

-- The calls on a frame's octets by what their parts found: the SAID's machine, the answer, and the octets written.
use mathlib.Core.Path.{◌≡◌, refl, sym, ◌∙◌, ap, subst}
use mathlib.Core.Bool.{Bool, true, false}
use mathlib.Core.List.{List}
use Prim.Native.Nat.{ℕ, ◌≤◌}
use lib.ListN.{length}
use lib.Dec.{eqb}
use Rattle.key_traffic.specs.declared.numbers.TekNumber.{TekNumber}
use Rattle.key_traffic.specs.Opening.{Opening}
use Rattle.questions.specs.Answer.{Answer, Done, Refused}
use Rattle.key_traffic.specs.Frame.{opens}
use Rattle.key_traffic.specs.Octets.{overlay}
use Rattle.key_traffic.specs.Suites.{width_of}
use Rattle.key_traffic.specs.Sealing.{key_out, opened_by_of}
use Rattle.questions.specs.declared.refusal.Refusal.{Refusal}
use Rattle.questions.specs.Refusal.{number_of, answer_number_of}
use Rattle.frame_octets.specs.Framed.{seal_under_of, open_under_of, FrameSealGives}
use Rattle.frame_octets.proofs.FramedLaws.{seal_refused, seal_done}
use Rattle.message_digest.specs.Digest.{message_key_fits_of}
use Rattle.modem_tek.specs.declared.tek.Tek.{Tek}
use Rattle.modem_steps.specs.declared.state.Modem.{Modem}
use Rattle.modem_receive.specs.Receive.{is_known_of}
use Rattle.modem_limits.specs.Limits.{modem_fits_of}
use Rattle.modem_frames.specs.declared.rules.OpenedCall.{OpenedCall}
use Rattle.modem_frames.specs.FrameRules.{pair_opening_of, counted_by_of}
use Rattle.modem_frames.specs.Frames.{machine_of, can_open_of, ModemOpened, missed, opened_for, machine_out}
use Rattle.modem_frames.specs.OctetFrames.{seal_frame_asked_of, seal_frame_answer_of, seal_frame_value, open_frame_asked_of, open_frame_answer_of, ModemOpenedFrame, opened_frame_of, open_frame_value, OpenFrameGives}
use Rattle.modem_frames.specs.FrameCalled.{not_sealed_of, opened_call_of, open_called_of, known_machine}
use Rattle.modem_frames.proofs.MachineLaws.{machine_known}
use Rattle.modem_frames.proofs.OctetLaws.{seal_frame_asked, seal_frame_met, open_frame_asked, open_frame_missing, open_frame_met}

-- ---- sealing
module _ (m : Modem) (said : ℕ) (frame sealed : List ℕ) (t : Tek) (a : Answer) (et : t ≡ known_machine m said)
    (ea : a ≡ seal_frame_asked_of m said t (length frame) (length sealed)) where
  seal-answer : a ≡ seal_frame_answer_of m said (length frame) (length sealed)
  seal-answer = ea ∙ ap (λ (u : Tek). seal_frame_asked_of m said u (length frame) (length sealed)) et ∙ seal_frame_asked m said (length frame) (length sealed)

  pub seal_frame_refused : (r : Refusal) → a ≡ Refused r → FrameSealGives (seal_frame_value m said frame (length sealed)) sealed (not_sealed_of r) sealed
  unfolding seal_frame_value
  seal_frame_refused r e =
      seal_refused (width_of (machine_of m said).suite) (machine_of m said).pair.newer frame sealed (Refused r) (seal_frame_answer_of m said (length frame) (length sealed)) (sym e ∙ seal-answer) refl

  module _ (e : a ≡ Done) where
    met : (12 ≤ length frame) × (length frame ≤ length sealed) × (is_known_of m said ≡ true) × (width_of (machine_of m said).suite ≡ 16)
    met = seal_frame_met m said (length frame) (length sealed) (sym seal-answer ∙ e)

    pub seal_frame_long : (12 ≤ length frame) × (length frame ≤ length sealed)
    seal_frame_long = (met.0, met.1)

    -- what sealing with the newer key of a machine u writes and hands back
    abbrev SealsBy : Tek → ℕ → List ℕ → Type 0
    SealsBy u n sealed₁ =
        n ≡ length (seal_under_of (key_out 16 u.pair.newer) frame) → sealed₁ ≡ overlay sealed (seal_under_of (key_out 16 u.pair.newer) frame)
        → FrameSealGives (seal_frame_value m said frame (length sealed)) sealed (record { answer = Done; number = u.pair.newer.number; width = n }) sealed₁

    by_machine : (n : ℕ) (sealed₁ : List ℕ) → SealsBy (machine_of m said) n sealed₁
    unfolding seal_frame_value
    by_machine n sealed₁ count put =
        seal_done (width_of (machine_of m said).suite) (machine_of m said).pair.newer frame sealed n sealed₁ met.3 count put Done
        (seal_frame_answer_of m said (length frame) (length sealed)) (sym e ∙ seal-answer) refl

    pub seal_frame_done : (n : ℕ) (sealed₁ : List ℕ) → SealsBy t n sealed₁
    seal_frame_done n sealed₁ = subst (λ (u : Tek). SealsBy u n sealed₁) (sym (et ∙ machine_known m said met.2)) (by_machine n sealed₁)

-- ---- opening: the octets under the decision's key, as the code has it
pub opened_under : (clock : ℕ) (number : TekNumber) (t : Tek) (o : Opening) (frame opened : List ℕ) (n : ℕ) (opened₁ : List ℕ)
    → o ≡ pair_opening_of clock number t.pair → width_of t.suite ≡ 16
    → (n ≡ length (open_under_of (opened_by_of o 16 t.pair.older t.pair.newer) frame))
    × (opened₁ ≡ overlay opened (open_under_of (opened_by_of o 16 t.pair.older t.pair.newer) frame))
    → (n ≡ length (open_under_of (machine_out clock number t) frame)) × (opened₁ ≡ overlay opened (open_under_of (machine_out clock number t) frame))
opened_under clock number t o frame opened n opened₁ eo wide put = rw (sym eo, wide) (put.0, put.1)

-- ---- opening: the call
module _ (m : Modem) (direction address said : ℕ) (number : TekNumber) (frame write opened out : List ℕ) where
  abbrev Meets : ModemOpened → OpenedCall → List ℕ → List ℕ → Type 0
  Meets o c opened₁ out₁ = OpenFrameGives (opened_frame_of o frame) opened out c opened₁ out₁

  abbrev opening : ModemOpenedFrame
  opening = open_frame_value m direction address said number frame write (length opened) (length out)

  abbrev asked : Answer
  asked = open_frame_answer_of m direction address said number write (length frame) (length opened) (length out)

  module _ (t : Tek) (keys : Bool) (a : Answer) (et : t ≡ known_machine m said) (ek : keys ≡ message_key_fits_of write)
      (ea : a ≡ open_frame_asked_of m direction address said number t keys (length frame) (length opened) (length out)) where
    open-answer : a ≡ asked
    open-answer =
        ea ∙ ap (λ (u : Tek). open_frame_asked_of m direction address said number u keys (length frame) (length opened) (length out)) et
        ∙ ap (λ (k : Bool). open_frame_asked_of m direction address said number (known_machine m said) k (length frame) (length opened) (length out)) ek
        ∙ open_frame_asked m direction address said number write (length frame) (length opened) (length out)

    -- what meets an opening that is answered so meets the call
    as_called : (o : ModemOpened) → o ≡ opened_for a m said number write → (c : OpenedCall) (opened₁ out₁ : List ℕ) → Meets o c opened₁ out₁
        → OpenFrameGives opening opened out c opened₁ out₁
    unfolding open_frame_value
    as_called o eo c opened₁ out₁ =
        subst (λ (x : ModemOpened). Meets x c opened₁ out₁) (eo ∙ ap (λ (b : Answer). opened_for b m said number write) open-answer)

    -- refused
    module _ (r : Refusal) (e : a ≡ Refused r) where
      pub frame_missing_ready : number_of r ≡ 13 → (modem_fits_of m ≡ true) × ((is_known_of m said ≡ true) × ((length write ≡ 20) × (216 ≤ length out)))
      frame_missing_ready is =
          open_frame_missing m direction address said number write (length frame) (length opened) (length out) (ap answer_number_of (sym open-answer ∙ e) ∙ is)

      pub open_frame_refused : (c : OpenedCall) (out₁ : List ℕ) → c ≡ open_called_of (missed (eqb (number_of r) 13) (Refused r) m said write)
          → out₁ ≡ overlay out (missed (eqb (number_of r) 13) (Refused r) m said write).sent → OpenFrameGives opening opened out c opened out₁
      open_frame_refused c out₁ ec eo =
          as_called (opened_for (Refused r) m said number write) (ap (λ (b : Answer). opened_for b m said number write) (sym e)) c opened out₁
          (go (eqb (number_of r) 13) ec eo)
        where
          go : (b : Bool) → c ≡ open_called_of (missed b (Refused r) m said write) → out₁ ≡ overlay out (missed b (Refused r) m said write).sent
              → Meets (missed b (Refused r) m said write) c opened out₁
          go true ec eo = (ec, refl, eo)
          go false ec eo = (ec, refl, eo)

    -- opened
    module _ (e : a ≡ Done) where
      passed : (can_open_of m said number ≡ true) × (width_of (machine_of m said).suite ≡ 16) × (12 ≤ length frame) × (length frame ≤ length opened) × (is_known_of m said ≡ true)
      passed = open_frame_met m direction address said number write (length frame) (length opened) (length out) (sym open-answer ∙ e)

      machine_is : t ≡ machine_of m said
      machine_is = et ∙ machine_known m said passed.4

      pub open_frame_ready : (opens (pair_opening_of m.clock number t.pair) ≡ true) × (width_of t.suite ≡ 16) × (12 ≤ length frame) × (length frame ≤ length opened)
      open_frame_ready =
          subst (λ (u : Tek). (opens (pair_opening_of m.clock number u.pair) ≡ true) × (width_of u.suite ≡ 16) × (12 ≤ length frame) × (length frame ≤ length opened)) (sym machine_is)
          (passed.0, passed.1, passed.2, passed.3)

      pub open_frame_done : (next : Modem) (k : ℕ) (c : OpenedCall) (opened₁ : List ℕ) → next ≡ counted_by_of 0 m
          → k ≡ length (open_under_of (machine_out m.clock number t) frame) → c ≡ opened_call_of Done next k 0
          → opened₁ ≡ overlay opened (open_under_of (machine_out m.clock number t) frame)
          → OpenFrameGives opening opened out c opened₁ out
      open_frame_done next k c opened₁ ex ek ec eo =
          let under : List ℕ = open_under_of (machine_out m.clock number (machine_of m said)) frame in
          let same : open_under_of (machine_out m.clock number t) frame ≡ under = ap (λ (u : Tek). open_under_of (machine_out m.clock number u) frame) machine_is in
          as_called (opened_for Done m said number write) (ap (λ (b : Answer). opened_for b m said number write) (sym e)) c opened₁ out (
            ec ∙ ap (λ (x : Modem). opened_call_of Done x k 0) ex
                ∙ ap (λ (x : ℕ). opened_call_of Done (counted_by_of 0 m) x 0) (ek ∙ ap length same),
            eo ∙ ap (overlay opened) same,
            refl,
          )

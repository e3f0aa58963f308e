-- The calls about frames by what their parts found: the SAID's machine, the answer, and the octets written.
use mathlib.Core.Path.{◌≡◌, refl, sym, ◌∙◌, ap, subst}
use mathlib.Core.Bool.{Bool, true, false, ◌&&◌, cond}
use mathlib.Core.List.{List, []}
use Prim.Native.Nat.{ℕ, ◌≤◌}
use native.Mathlib.Omega.{arith}
use lib.Dec.{leb, eqb}
use lib.ListN.{length, take}
use borrow.Author.Tests.{ltb-true, leb-true, eqb-true}
use Rattle.key_traffic.specs.declared.numbers.TekNumber.{TekNumber}
use Rattle.questions.specs.Answer.{Answer, Done, Refused}
use Rattle.questions.specs.declared.refusal.Refusal.{Refusal}
use Rattle.questions.specs.declared.refusal.Refusal.TheVariants.{OutOfLimits, WrongLength, UnknownSaid, NoKeyForFrame, NoKeyToSeal}
use Rattle.key_traffic.specs.Octets.{overlay}
use Rattle.questions.specs.Refusal.{number_of, answer_number_of}
use Rattle.key_traffic.specs.Suites.{width_of}
use Rattle.key_traffic.specs.Sealing.{Sealed, sealed_for, seal_called_of, SealGives}
use Rattle.questions.proofs.TestLaws.{both}
use Rattle.message_rules.specs.Fields.{no_params_of}
use Rattle.message_digest.specs.Digest.{message_key_fits_of}
use Rattle.modem_tek.specs.declared.tek.Tek.{Tek}
use Rattle.modem_steps.specs.declared.state.Modem.{Modem}
use Rattle.modem_steps.specs.declared.state.Progress.{Progress}
use Rattle.modem_steps.specs.State.{starting}
use Rattle.modem_steps.specs.Slots.{slot_of_said_of, deliver}
use Rattle.modem_receive.specs.Receive.{is_known_of}
use Rattle.key_traffic.specs.declared.sealing.SealedCall.{SealedCall}
use Rattle.modem_frames.specs.declared.rules.OpenedCall.{OpenedCall}
use Rattle.modem_limits.specs.Limits.{modem_fits_of}
use Rattle.modem_calls.specs.Messages.{OutFits}
use Rattle.modem_frames.specs.FrameRules.{counted_by_of}
use Rattle.modem_frames.specs.Frames.{machine_of, can_seal_of, seal_answer_of, seal_of, can_open_of, open_answer_of, ModemOpened, missed, opened_for, open_of, machine_out, seal_asked_of, open_asked_of}
use Rattle.modem_frames.specs.FrameCalled.{not_sealed_of, opened_call_of, open_called_of, known_machine, OpenGives}
use Rattle.modem_calls.proofs.OutLaws.{out_wider}
use Rattle.modem_calls.proofs.SentLaws.{sends_none, deliver_sends}
use Rattle.modem_calls.proofs.SentFits.{fits_sayable}
use Rattle.modem_frames.proofs.FrameLaws.{frame_in, slices_long_of, is_here, frame-fits}
use Rattle.modem_frames.proofs.MachineLaws.{machine_known, seal_asked, open_asked}

-- ---- what the answers say of the four questions
abbrev asks : Refusal → Bool → Bool → Bool → Bool → Answer
asks last a b c d = cond a (cond b (cond c (cond d Done (Refused last)) (Refused UnknownSaid)) (Refused WrongLength)) (Refused OutOfLimits)

asks_done : (last : Refusal) (a b c d : Bool) → asks last a b c d ≡ Done → (a ≡ true) × (b ≡ true) × (c ≡ true)
asks_done last false b c d e = let z : ◌≡◌ {A = ℕ} 0 1 = cc in absurd (omega arith)
asks_done last true false c d e = let z : ◌≡◌ {A = ℕ} 0 1 = cc in absurd (omega arith)
asks_done last true true false d e = let z : ◌≡◌ {A = ℕ} 0 1 = cc in absurd (omega arith)
asks_done last true true true d e = (refl, refl, refl)

asks_13 : (last : Refusal) (a b c d : Bool) → answer_number_of (asks last a b c d) ≡ 13 → (a ≡ true) × (b ≡ true) × (c ≡ true)
asks_13 last false b c d e = absurd (omega arith)
asks_13 last true false c d e = absurd (omega arith)
asks_13 last true true false d e = absurd (omega arith)
asks_13 last true true true d e = (refl, refl, refl)

-- question 2 says how long the slices are
slices_long : (write : List ℕ) (tek vector lent : ℕ) → slices_long_of write tek vector lent ≡ true → (16 ≤ tek) × (16 ≤ vector) × (216 ≤ lent) × (length write ≡ 20)
slices_long write tek vector lent e =
    let s₃ = both (message_key_fits_of write && leb 16 tek && leb 16 vector) (leb 216 lent) e in
    let s₂ = both (message_key_fits_of write && leb 16 tek) (leb 16 vector) s₃.0 in
    let s₁ = both (message_key_fits_of write) (leb 16 tek) s₂.0 in
    (leb-true 16 tek s₁.1, leb-true 16 vector s₂.1, leb-true 216 lent s₃.1, eqb-true (length write) 20 s₁.0)

-- ---- sealing
abbrev sealed_by : Answer → Tek → Sealed
sealed_by a t = sealed_for a (width_of t.suite) t.pair.newer

module _ (m : Modem) (said : ℕ) (tek vector : List ℕ) where
  -- what the call hands back, and what the two slices hold after it
  abbrev SealMeets : Sealed → SealedCall → List ℕ → List ℕ → Type 0
  SealMeets s c tek₁ vector₁ = SealGives s tek vector c tek₁ vector₁

  module _ (t : Tek) (a : Answer) (et : t ≡ known_machine m said) (ea : a ≡ seal_asked_of m said t (length tek) (length vector)) where
    seal-answer : a ≡ seal_answer_of m said (length tek) (length vector)
    seal-answer = ea ∙ ap (λ (u : Tek). seal_asked_of m said u (length tek) (length vector)) et ∙ seal_asked m said (length tek) (length vector)

    pub seal_refused : (r : Refusal) → a ≡ Refused r → SealMeets (seal_of m said (length tek) (length vector)) (not_sealed_of r) tek vector
    unfolding seal_of
    seal_refused r e =
        subst (λ (b : Answer). SealMeets (sealed_by b (machine_of m said)) (not_sealed_of r) tek vector) (sym e ∙ seal-answer) (refl, refl, refl)

    module _ (e : a ≡ Done) where
      seal_met : (modem_fits_of m && leb said 16383 ≡ true) × (leb 16 (length tek) && leb 16 (length vector) ≡ true) × (is_known_of m said ≡ true)
      unfolding seal_answer_of seal_asked_of
      seal_met =
          asks_done NoKeyToSeal (modem_fits_of m && leb said 16383) (leb 16 (length tek) && leb 16 (length vector)) (is_known_of m said) (can_seal_of m said)
          (sym seal-answer ∙ e)

      pub seal_long : (16 ≤ length tek) × (16 ≤ length vector)
      seal_long =
          let b = both (leb 16 (length tek)) (leb 16 (length vector)) seal_met.1 in
          (leb-true 16 (length tek) b.0, leb-true 16 (length vector) b.1)

      seal_same : sealed_by Done t ≡ seal_of m said (length tek) (length vector)
      unfolding seal_of
      seal_same =
          ap (sealed_by Done) (et ∙ machine_known m said seal_met.2)
          ∙ ap (λ (b : Answer). sealed_by b (machine_of m said)) (sym e ∙ seal-answer)

      pub seal_done : (w n : ℕ) (tek₁ vector₁ : List ℕ) → w ≡ width_of t.suite → n ≡ length (take w t.pair.newer.tek)
          → tek₁ ≡ overlay tek (take w t.pair.newer.tek) → vector₁ ≡ overlay vector (take w t.pair.newer.vector)
          → SealMeets (seal_of m said (length tek) (length vector)) (record { answer = Done; number = t.pair.newer.number; width = n }) tek₁ vector₁
      seal_done w n tek₁ vector₁ ew en e₁ e₂ =
          let k = t.pair.newer in
          let wide : n ≡ length (take (width_of t.suite) k.tek) = en ∙ ap (λ (x : ℕ). length (take x k.tek)) ew in (
            ap (λ (x : ℕ). record { answer = Done; number = k.number; width = x }) wide ∙ ap seal_called_of seal_same,
            e₁ ∙ ap (λ (x : ℕ). overlay tek (take x k.tek)) ew ∙ ap (λ (s : Sealed). overlay tek s.out.tek) seal_same,
            e₂ ∙ ap (λ (x : ℕ). overlay vector (take x k.vector)) ew ∙ ap (λ (s : Sealed). overlay vector s.out.vector) seal_same,
          )

-- ---- opening: event 5 at the SAID's slot
module _ (m : Modem) (said : ℕ) where
  pub deliver_slot : (v r : Progress) (i : ℕ) → v ≡ starting m → i ≡ slot_of_said_of m said → r ≡ deliver v i 5 → r ≡ deliver (starting m) (slot_of_said_of m said) 5
  deliver_slot v r i ev ei e = e ∙ ap (λ (x : Progress). deliver x i 5) ev ∙ ap (λ (k : ℕ). deliver (starting m) k 5) ei

  pub deliver_out : modem_fits_of m ≡ true → is_known_of m said ≡ true → OutFits (deliver (starting m) (slot_of_said_of m said) 5).out 6
  deliver_out fits known =
      out_wider (deliver (starting m) (slot_of_said_of m said) 5).out 1 6 (omega arith)
      (deliver_sends (starting m) (slot_of_said_of m said) 5 no_params_of no_params_of 0 (ltb-true (slot_of_said_of m said) 4 known) (omega arith)
      (sends_none m (fits_sayable m fits))).out

-- ---- opening: the call
abbrev opened_with : Modem → TekNumber → Tek → ModemOpened
opened_with m number t = record { answer = Done; modem = counted_by_of 0 m; out = machine_out m.clock number t; sent = [] }

module _ (m : Modem) (direction address said : ℕ) (number : TekNumber) (write tek vector out : List ℕ) where
  abbrev OpenMeets : ModemOpened → OpenedCall → List ℕ → List ℕ → List ℕ → Type 0
  OpenMeets o c tek₁ vector₁ out₁ = OpenGives o tek vector out c tek₁ vector₁ out₁

  abbrev opening : ModemOpened
  opening = open_of m direction address said number write (length tek) (length vector) (length out)

  module _ (t : Tek) (keys : Bool) (a : Answer) (et : t ≡ known_machine m said) (ek : keys ≡ message_key_fits_of write)
      (ea : a ≡ open_asked_of m direction address said number t keys (length tek) (length vector) (length out)) where
    open-answer : a ≡ open_answer_of m direction address said number write (length tek) (length vector) (length out)
    open-answer =
        ea ∙ ap (λ (u : Tek). open_asked_of m direction address said number u keys (length tek) (length vector) (length out)) et
        ∙ ap (λ (k : Bool). open_asked_of m direction address said number (known_machine m said) k (length tek) (length vector) (length out)) ek
        ∙ open_asked m direction address said number write (length tek) (length vector) (length out)

    open_for : opened_for a m said number write ≡ opening
    unfolding open_of
    open_for = ap (λ (b : Answer). opened_for b m said number write) open-answer

    -- refused
    module _ (r : Refusal) (e : a ≡ Refused r) where
      open_met : number_of r ≡ 13 → (frame_in m direction address said number ≡ true) × (slices_long_of write (length tek) (length vector) (length out) ≡ true) × (is_here m address said ≡ true)
      unfolding open_answer_of open_asked_of
      open_met is =
          asks_13 NoKeyForFrame (frame_in m direction address said number) (slices_long_of write (length tek) (length vector) (length out)) (is_here m address said)
          (can_open_of m said number) (ap answer_number_of (sym open-answer ∙ e) ∙ is)

      pub missing_ready : number_of r ≡ 13 → (modem_fits_of m ≡ true) × ((is_known_of m said ≡ true) × ((length write ≡ 20) × (216 ≤ length out)))
      missing_ready is =
          let l = slices_long write (length tek) (length vector) (length out) (open_met is).1 in (
            frame-fits m direction address said number (open_met is).0,
            ((both (eqb address m.address) (is_known_of m said) (open_met is).2).1, (l.3, l.2)),
          )

      pub open_refused : (c : OpenedCall) (out₁ : List ℕ) → c ≡ open_called_of (missed (eqb (number_of r) 13) (Refused r) m said write)
          → out₁ ≡ overlay out (missed (eqb (number_of r) 13) (Refused r) m said write).sent → OpenMeets opening c tek vector out₁
      open_refused c out₁ ec eo =
          subst (λ (o : ModemOpened). OpenMeets o c tek vector out₁) (ap (λ (b : Answer). opened_for b m said number write) (sym e) ∙ open_for)
          (go (eqb (number_of r) 13) ec eo)
        where
          go : (b : Bool) → c ≡ open_called_of (missed b (Refused r) m said write) → out₁ ≡ overlay out (missed b (Refused r) m said write).sent
              → OpenMeets (missed b (Refused r) m said write) c tek vector out₁
          go true ec eo = (ec, refl, refl, eo)
          go false ec eo = (ec, refl, refl, eo)

    -- opened
    module _ (e : a ≡ Done) where
      open_done_met : (frame_in m direction address said number ≡ true) × (slices_long_of write (length tek) (length vector) (length out) ≡ true) × (is_here m address said ≡ true)
      unfolding open_answer_of open_asked_of
      open_done_met =
          asks_done NoKeyForFrame (frame_in m direction address said number) (slices_long_of write (length tek) (length vector) (length out)) (is_here m address said)
          (can_open_of m said number) (sym open-answer ∙ e)

      pub open_long : (16 ≤ length tek) × (16 ≤ length vector)
      open_long = let l = slices_long write (length tek) (length vector) (length out) open_done_met.1 in (l.0, l.1)

      open_same : opened_with m number t ≡ opening
      open_same =
          ap (opened_with m number) (et ∙ machine_known m said (both (eqb address m.address) (is_known_of m said) open_done_met.2).1)
          ∙ ap (λ (b : Answer). opened_for b m said number write) (sym e) ∙ open_for

      pub open_done : (next : Modem) (k : ℕ) (c : OpenedCall) (tek₁ vector₁ : List ℕ) → next ≡ counted_by_of 0 m
          → k ≡ length (machine_out m.clock number t).tek → c ≡ opened_call_of Done next k 0
          → tek₁ ≡ overlay tek (machine_out m.clock number t).tek → vector₁ ≡ overlay vector (machine_out m.clock number t).vector
          → OpenMeets opening c tek₁ vector₁ out
      open_done next k c tek₁ vector₁ ex ek ec e₁ e₂ =
          subst (λ (r : ModemOpened). OpenMeets r c tek₁ vector₁ out) open_same (
            ec ∙ ap (λ (x : Modem). opened_call_of Done x k 0) ex ∙ ap (λ (x : ℕ). opened_call_of Done (counted_by_of 0 m) x 0) ek,
            e₁,
            e₂,
            refl,
          )

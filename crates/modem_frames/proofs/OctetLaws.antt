-- Frames sealed and opened in their octets at the modem: what the passed questions say, and that the key is the one that the calls which give keys give.
use mathlib.Core.Path.{◌≡◌, refl, sym, ◌∙◌, ap}
use mathlib.Core.Bool.{Bool, true, false, ◌&&◌, cond, and-true, and-false}
use mathlib.Core.Logic.{◌⊎◌, inl, inr}
use mathlib.Core.List.{List}
use Prim.Native.Nat.{ℕ, ◌≤◌}
use native.Mathlib.Omega.{arith}
use lib.Dec.{leb, eqb}
use lib.ListN.{length}
use borrow.Author.Tests.{leb-true, le-leb, eqb-true, eq-eqb}
use Rattle.key_traffic.specs.declared.numbers.TekNumber.{TekNumber}
use Rattle.key_traffic.specs.Addresses.{address_fits_of}
use Rattle.questions.specs.Answer.{Answer, Done, Refused}
use Rattle.questions.specs.declared.refusal.Refusal.{Refusal}
use Rattle.questions.specs.declared.refusal.Refusal.TheVariants.{OutOfLimits, WrongLength, UnknownSaid, NoKeyForFrame, NoKeyToSeal, ShortFrame}
use Rattle.key_traffic.specs.Numbers.{tek_in_range_of}
use Rattle.key_traffic.specs.Suites.{width_of}
use Rattle.key_traffic.specs.Sealing.{sealed_for}
use Rattle.questions.specs.Refusal.{answer_number_of}
use Rattle.questions.proofs.TestLaws.{both}
use Rattle.frame_octets.specs.Framed.{suite_seals_of}
use Rattle.frame_octets.proofs.FramedLaws.{seals_wide}
use Rattle.message_digest.specs.Digest.{message_key_fits_of}
use Rattle.modem_tek.specs.declared.tek.Tek.{Tek}
use Rattle.modem_steps.specs.declared.state.Modem.{Modem}
use Rattle.modem_steps.specs.State.{no_tek_of}
use Rattle.modem_receive.specs.Receive.{is_known_of}
use Rattle.modem_limits.specs.Limits.{modem_fits_of}
use Rattle.modem_frames.specs.FrameRules.{pair_seals, pair_opens}
use Rattle.modem_frames.specs.Frames.{machine_of, can_seal_of, can_open_of, seal_asked_of, seal_answer_of, seal_of, open_asked_of, open_answer_of, open_of}
use Rattle.modem_frames.specs.OctetFrames.{seal_frame_asked_of, open_frame_asked_of, seal_frame_answer_of, seal_frame_value, open_frame_answer_of, open_frame_value}
use Rattle.modem_frames.specs.FrameCalled.{known_machine}
use Rattle.modem_frames.proofs.FrameLaws.{frame_in, sealed_done, frame-fits}

-- ---- the answers do not depend on the machine of a SAID that is not known
after_known : (b : Bool) (f g : Tek → Bool) (t u : Tek) (q : Refusal)
    → cond (b && f (cond b t u)) (cond (g (cond b t u)) Done (Refused q)) (Refused UnknownSaid) ≡ cond (b && f t) (cond (g t) Done (Refused q)) (Refused UnknownSaid)
after_known true f g t u q = refl
after_known false f g t u q = refl

after_here : (a b : Bool) (f g : Tek → Bool) (t u : Tek) (q : Refusal)
    → cond (a && (b && f (cond b t u))) (cond (g (cond b t u)) Done (Refused q)) (Refused UnknownSaid)
    ≡ cond (a && (b && f t)) (cond (g t) Done (Refused q)) (Refused UnknownSaid)
after_here true b f g t u q = after_known b f g t u q
after_here false b f g t u q = refl

-- question 2: the message key and the lent slices
abbrev pub room_for : List ℕ → ℕ → ℕ → ℕ → Bool
room_for write frame lent messages = message_key_fits_of write && leb frame lent && leb 216 messages

-- question 10, with the suite
abbrev pub seals_here : Modem → ℕ → Bool
seals_here m said = is_known_of m said && suite_seals_of (machine_of m said).suite

abbrev pub opens_here : Modem → ℕ → ℕ → Bool
opens_here m address said = eqb address m.address && seals_here m said

pub seal_frame_asked : (m : Modem) (said frame lent : ℕ) → seal_frame_asked_of m said (known_machine m said) frame lent ≡ seal_frame_answer_of m said frame lent
unfolding seal_frame_asked_of seal_frame_answer_of known_machine
seal_frame_asked m said frame lent =
    ap (λ (a : Answer). cond (modem_fits_of m && leb said 16383) (cond (leb frame lent) (cond (leb 12 frame) a (Refused ShortFrame)) (Refused WrongLength)) (Refused OutOfLimits))
    (after_known (is_known_of m said) (λ t. suite_seals_of t.suite) (λ t. pair_seals m.clock t.pair) (machine_of m said) no_tek_of NoKeyToSeal)

pub open_frame_asked : (m : Modem) (direction address said : ℕ) (number : TekNumber) (write : List ℕ) (frame lent messages : ℕ)
    → open_frame_asked_of m direction address said number (known_machine m said) (message_key_fits_of write) frame lent messages
    ≡ open_frame_answer_of m direction address said number write frame lent messages
unfolding open_frame_asked_of open_frame_answer_of known_machine
open_frame_asked m direction address said number write frame lent messages =
    ap (λ (a : Answer). cond (frame_in m direction address said number)
    (cond (room_for write frame lent messages) (cond (leb 12 frame) a (Refused ShortFrame)) (Refused WrongLength)) (Refused OutOfLimits))
    (after_here (eqb address m.address) (is_known_of m said) (λ t. suite_seals_of t.suite) (λ t. pair_opens m.clock number t.pair) (machine_of m said) no_tek_of NoKeyForFrame)

-- ---- what the answers say of the five questions
abbrev asks : Refusal → Bool → Bool → Bool → Bool → Bool → Answer
asks last a b c d e =
    cond a (cond b (cond c (cond d (cond e Done (Refused last)) (Refused UnknownSaid)) (Refused ShortFrame)) (Refused WrongLength)) (Refused OutOfLimits)

asks_0 : (last : Refusal) (a b c d e : Bool) → asks last a b c d e ≡ Done → (a ≡ true) × (b ≡ true) × (c ≡ true) × (d ≡ true) × (e ≡ true)
asks_0 last false b c d e h = let z : ◌≡◌ {A = ℕ} 0 1 = cc in absurd (omega arith)
asks_0 last true false c d e h = let z : ◌≡◌ {A = ℕ} 0 1 = cc in absurd (omega arith)
asks_0 last true true false d e h = let z : ◌≡◌ {A = ℕ} 0 1 = cc in absurd (omega arith)
asks_0 last true true true false e h = let z : ◌≡◌ {A = ℕ} 0 1 = cc in absurd (omega arith)
asks_0 last true true true true false h = let z : ◌≡◌ {A = ℕ} 0 1 = cc in absurd (omega arith)
asks_0 last true true true true true h = (refl, refl, refl, refl, refl)

asks_13 : (last : Refusal) (a b c d e : Bool) → answer_number_of (asks last a b c d e) ≡ 13 → (a ≡ true) × (b ≡ true) × (d ≡ true)
asks_13 last false b c d e h = absurd (omega arith)
asks_13 last true false c d e h = absurd (omega arith)
asks_13 last true true false d e h = absurd (omega arith)
asks_13 last true true true false e h = absurd (omega arith)
asks_13 last true true true true e h = (refl, refl, refl)

room_each : (write : List ℕ) (frame lent messages : ℕ) → room_for write frame lent messages ≡ true → (length write ≡ 20) × (frame ≤ lent) × (216 ≤ messages)
room_each write frame lent messages e =
    let s₂ = both (message_key_fits_of write && leb frame lent) (leb 216 messages) e in
    let s₁ = both (message_key_fits_of write) (leb frame lent) s₂.0 in
    (eqb-true (length write) 20 s₁.0, leb-true frame lent s₁.1, leb-true 216 messages s₂.1)

-- ---- sealing
module _ (m : Modem) (said frame lent : ℕ) (done : seal_frame_answer_of m said frame lent ≡ Done) where
  seal_met : (modem_fits_of m && leb said 16383 ≡ true) × (leb frame lent ≡ true) × (leb 12 frame ≡ true) × (seals_here m said ≡ true) × (can_seal_of m said ≡ true)
  unfolding seal_frame_answer_of seal_frame_asked_of
  seal_met = asks_0 NoKeyToSeal (modem_fits_of m && leb said 16383) (leb frame lent) (leb 12 frame) (seals_here m said) (can_seal_of m said) done

  -- the lengths, the SAID and its suite's width
  pub seal_frame_met : (12 ≤ frame) × (frame ≤ lent) × (is_known_of m said ≡ true) × (width_of (machine_of m said).suite ≡ 16)
  seal_frame_met =
      let q = seal_met in
      let here = both (is_known_of m said) (suite_seals_of (machine_of m said).suite) q.3 in
      (leb-true 12 frame q.2, leb-true frame lent q.1, here.0, seals_wide (machine_of m said).suite here.1)

  -- the call that gives keys is done too
  seal_key_done : seal_answer_of m said 16 16 ≡ Done
  unfolding seal_answer_of seal_asked_of
  seal_key_done =
      let q = seal_met in
      rw (q.0, (both (is_known_of m said) (suite_seals_of (machine_of m said).suite) q.3).0, q.4) refl

-- a frame is sealed with the key that the call which gives keys gives
pub sealed_alike : (m : Modem) (said : ℕ) (frame : List ℕ) (lent : ℕ) → (seal_frame_value m said frame lent).sealed.answer ≡ Done
    → (seal_frame_value m said frame lent).sealed ≡ seal_of m said 16 16
unfolding seal_frame_value seal_of
sealed_alike m said frame lent e =
    let w = width_of (machine_of m said).suite in
    let k = (machine_of m said).pair.newer in
    let d = sealed_done (seal_frame_answer_of m said (length frame) lent) w k e in
    ap (λ (a : Answer). sealed_for a w k) (d ∙ sym (seal_key_done m said (length frame) lent d))

pub sealed_long : (m : Modem) (said : ℕ) (frame : List ℕ) (lent : ℕ) → (seal_frame_value m said frame lent).sealed.answer ≡ Done → 12 ≤ length frame
unfolding seal_frame_value
sealed_long m said frame lent e =
    (seal_frame_met m said (length frame) lent (sealed_done (seal_frame_answer_of m said (length frame) lent) (width_of (machine_of m said).suite) (machine_of m said).pair.newer e)).0

-- ---- opening
module _ (m : Modem) (direction address said : ℕ) (number : TekNumber) (write : List ℕ) (frame lent messages : ℕ) where
  abbrev answer : Answer
  answer = open_frame_answer_of m direction address said number write frame lent messages

  open_met_0 : answer ≡ Done → (frame_in m direction address said number ≡ true) × (room_for write frame lent messages ≡ true) × (leb 12 frame ≡ true) × (opens_here m address said ≡ true) × (can_open_of m said number ≡ true)
  unfolding open_frame_answer_of open_frame_asked_of
  open_met_0 = asks_0 NoKeyForFrame (frame_in m direction address said number) (room_for write frame lent messages) (leb 12 frame) (opens_here m address said) (can_open_of m said number)

  open_met_13 : answer_number_of answer ≡ 13 → (frame_in m direction address said number ≡ true) × (room_for write frame lent messages ≡ true) × (opens_here m address said ≡ true)
  unfolding open_frame_answer_of open_frame_asked_of
  open_met_13 = asks_13 NoKeyForFrame (frame_in m direction address said number) (room_for write frame lent messages) (leb 12 frame) (opens_here m address said) (can_open_of m said number)

  here_known : opens_here m address said ≡ true → (is_known_of m said ≡ true) × (width_of (machine_of m said).suite ≡ 16)
  here_known e =
      let s = both (is_known_of m said) (suite_seals_of (machine_of m said).suite) (both (eqb address m.address) (seals_here m said) e).1 in
      (s.0, seals_wide (machine_of m said).suite s.1)

  -- 13 is answered within the limits, for a SAID that is known
  pub open_frame_13 : answer_number_of answer ≡ 13 → (modem_fits_of m ≡ true) × (is_known_of m said ≡ true)
  open_frame_13 e = let q = open_met_13 e in (frame-fits m direction address said number q.0, (here_known q.2).0)

  pub open_frame_missing : answer_number_of answer ≡ 13 → (modem_fits_of m ≡ true) × ((is_known_of m said ≡ true) × ((length write ≡ 20) × (216 ≤ messages)))
  open_frame_missing e =
      let ready = open_frame_13 e in
      let r = room_each write frame lent messages (open_met_13 e).1 in
      (ready.0, (ready.1, (r.0, r.2)))

  pub open_frame_met : answer ≡ Done → (can_open_of m said number ≡ true) × (width_of (machine_of m said).suite ≡ 16) × (12 ≤ frame) × (frame ≤ lent) × (is_known_of m said ≡ true)
  open_frame_met e =
      let q = open_met_0 e in
      let here = here_known q.3 in
      (q.4, here.1, leb-true 12 frame q.2, (room_each write frame lent messages q.1).1, here.0)

-- within the limits: refused with 10, or the answer of the call that gives keys, for a SAID of suite 768
module _ (m : Modem) (address said : ℕ) (number : TekNumber) (frame write : List ℕ) (lent messages : ℕ) where
  pub record OpensAlike : Type 0 where
    pub alike : (open_frame_value m 1 address said number frame write lent messages).opened ≡ open_of m 1 address said number write 16 16 messages
    pub wide : width_of (machine_of m said).suite ≡ 16

  pub open_frame_cases : modem_fits_of m ≡ true → address_fits_of address ≡ true → said ≤ 16383 → tek_in_range_of number ≡ true → length write ≡ 20 → length frame ≤ lent → 216 ≤ messages → 12 ≤ length frame
      → (answer_number_of (open_frame_value m 1 address said number frame write lent messages).opened.answer ≡ 10) ⊎ OpensAlike
  unfolding open_frame_value open_frame_answer_of open_frame_asked_of open_of open_answer_of open_asked_of
  open_frame_cases fits below small range key room messages-room long = go (suite_seals_of (machine_of m said).suite) refl
    where
      go : (b : Bool) → suite_seals_of (machine_of m said).suite ≡ b → (answer_number_of (open_frame_value m 1 address said number frame write lent messages).opened.answer ≡ 10) ⊎ OpensAlike
      go true e =
          inr (record {
            alike = rw (eq-eqb (length write) 20 key, le-leb (length frame) lent room, le-leb 12 (length frame) long, e, and-true (is_known_of m said)) refl;
            wide = seals_wide (machine_of m said).suite e;
          })
      go false e = inl (rw (fits, below, le-leb said 16383 small, range, eq-eqb (length write) 20 key, le-leb (length frame) lent room, le-leb 216 messages messages-room, le-leb 12 (length frame) long, e, and-false (is_known_of m said), and-false (eqb address m.address)) refl)

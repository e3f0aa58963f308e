-- What a frame that is sealed or opened says of the modem's slots.
use mathlib.Core.Path.{◌≡◌, refl, sym, ◌∙◌, ap}
use mathlib.Core.Bool.{Bool, true, false, ◌&&◌, cond}
use mathlib.Core.Logic.{◌⊎◌, inl, inr}
use mathlib.Core.List.{List, [], ◌∷◌}
use Prim.Native.Nat.{ℕ, ◌≤◌, ◌<◌}
use native.Mathlib.Omega.{arith}
use lib.Dec.{leb, ltb, eqb}
use lib.ListN.{length}
use borrow.Author.Tests.{ltb-true, leb-true, lt-ltb, le-leb, eqb-true, eq-eqb}
use Rattle.key_traffic.specs.declared.numbers.TekNumber.{TekNumber}
use Rattle.key_traffic.specs.declared.traffic.TrafficKey.{TrafficKey}
use Rattle.questions.specs.Answer.{Answer, Done, Refused}
use Rattle.questions.specs.declared.refusal.Refusal.{Refusal}
use Rattle.questions.specs.declared.refusal.Refusal.TheVariants.{OutOfLimits, WrongLength, UnknownSaid, NoKeyForFrame, NoKeyToSeal}
use Rattle.key_traffic.specs.Numbers.{tek_in_range_of}
use Rattle.key_traffic.specs.Octets.{zero_past_of}
use Rattle.key_traffic.specs.Suites.{width_of}
use Rattle.questions.specs.Questions.{Question}
use Rattle.questions.specs.Refusal.{answer_number_of}
use Rattle.key_traffic.specs.Traffic.{key_fits_of, pair_fits_of}
use Rattle.key_traffic.specs.Opening.{Opening}
use Rattle.key_traffic.specs.Frame.{opening_key_of, opens}
use Rattle.key_traffic.specs.Sealing.{key_out, key_out_of, sealed_for}
use Rattle.key_traffic.proofs.FrameLaws.{opening_key}
use Rattle.questions.proofs.TestLaws.{both}
use Rattle.questions.proofs.AnswerLaws.{done_met}
use Rattle.message_rules.proofs.HoldsLaws.{never}
use Rattle.message_digest.specs.Digest.{message_key_fits_of}
use Rattle.modem_tek.specs.declared.parts.Pair.{Pair}
use Rattle.modem_transitions.specs.Transitions.{D}
use Rattle.modem_steps.specs.declared.state.Modem.{Modem}
use Rattle.modem_steps.specs.State.{slot_at}
use Rattle.modem_steps.specs.Slots.{slot_of_said_of}
use Rattle.modem_receive.specs.Receive.{is_known_of}
use Rattle.modem_limits.specs.Limits.{key_zero_of, pair_held_fits_of, modem_fits_of}
use Rattle.modem_frames.proofs.RuleLaws.{opens_held}
use Rattle.modem_frames.specs.Frames.{machine_of, seal_asked_of, open_asked_of, can_seal_of, seal_answer_of, seal_of, can_open_of, open_answer_of, ModemOpened, opened_for, open_of}
use Rattle.modem_limits.proofs.LimitsLaws.{limits_of, tek_in}
use Rattle.modem_calls.proofs.PairLaws.{first_found}

-- ---- a slot of a modem within its limits: the pair that it holds fits
held_fits : (must : Bool) (w clock : ℕ) (p : Pair) → pair_held_fits_of must w clock p ≡ true → p.held ≡ 1 → pair_fits_of w clock p.older p.newer ≡ true
unfolding pair_held_fits_of
held_fits true w clock p e h = (both (eqb p.held 1) (pair_fits_of w clock p.older p.newer) e).1
held_fits false w clock p e h =
    let none = (both (eqb p.held 0) (key_zero_of p.older) (both (eqb p.held 0 && key_zero_of p.older) (key_zero_of p.newer) e).0).0 in
    absurd (omega (arith, eqb-true p.held 0 none))

pub slot_pair : (m : Modem) → modem_fits_of m ≡ true → (i : ℕ) → i < m.used → (slot_at m i).pair.held ≡ 1
    → pair_fits_of (width_of (slot_at m i).suite) m.clock (slot_at m i).pair.older (slot_at m i).pair.newer ≡ true
slot_pair m e i inside h =
    let l = limits_of m e in
    let t = slot_at m i in
    let s = l.slots i (omega (arith, l.used)) in
    let in_use = tek_in m.settings.waits m.clock t (rw (lt-ltb i m.used inside) at s) in
    held_fits (leb D t.state) (width_of t.suite) m.clock t.pair in_use.pair h

-- both numbers are 0 to 15
pub pair_numbers : (w clock : ℕ) (older newer : TrafficKey) → pair_fits_of w clock older newer ≡ true → (tek_in_range_of older.number ≡ true) × (tek_in_range_of newer.number ≡ true)
unfolding pair_fits_of key_fits_of
pair_numbers w clock older newer e =
    let s₄ = both _ _ e in
    let s₃ = both _ _ s₄.0 in
    let s₂ = both _ _ s₃.0 in
    let s₁ = both _ _ s₂.0 in
    (number older s₁.0, number newer s₁.1)
  where
    number : (k : TrafficKey) → (tek_in_range_of k.number && zero_past_of w k.tek && zero_past_of w k.vector) ≡ true → tek_in_range_of k.number ≡ true
    number k h = (both _ _ (both _ _ h).0).0

-- ---- the slot of a SAID that is known
pub known_inside : (m : Modem) (said : ℕ) → is_known_of m said ≡ true
    → (slot_of_said_of m said < m.used) × (slot_of_said_of m said < 4) × ((machine_of m said).said ≡ said)
known_inside m said e =
    let in_four = ltb-true (slot_of_said_of m said) 4 e in
    let found = first_found (λ t. eqb t.said said) m in_four in
    (found.0, in_four, eqb-true (machine_of m said).said said found.1)

-- ---- sealing
pub record SealFacts (m : Modem) (said tek vector : ℕ) : Type 0 where
  pub fits : modem_fits_of m ≡ true
  pub inside : slot_of_said_of m said < m.used
  pub said_is : (machine_of m said).said ≡ said
  pub held : (machine_of m said).pair.held ≡ 1
  pub counts : m.clock < (machine_of m said).pair.newer.deadline
  pub number : (seal_of m said tek vector).number ≡ (machine_of m said).pair.newer.number
  pub out : (seal_of m said tek vector).out ≡ key_out (width_of (machine_of m said).suite) (machine_of m said).pair.newer
  pub range : said ≤ 16383
  pub number_range : tek_in_range_of (seal_of m said tek vector).number ≡ true

pub sealed_done : (a : Answer) (w : ℕ) (k : TrafficKey) → (sealed_for a w k).answer ≡ Done → a ≡ Done
sealed_done Done w k e = refl
sealed_done (Refused r) w k e = e

pub refused_not : {A : Type 0} (r : Refusal) → Refused r ≡ Done → A
refused_not r e = let z : ◌≡◌ {A = ℕ} 0 1 = cc in absurd (omega arith)

abbrev seal_questions : Modem → ℕ → ℕ → ℕ → List Question
seal_questions m said tek vector =
    record { refusal = OutOfLimits; met = modem_fits_of m && leb said 16383 }
    ∷ record { refusal = WrongLength; met = leb 16 tek && leb 16 vector }
    ∷ record { refusal = UnknownSaid; met = is_known_of m said }
    ∷ record { refusal = NoKeyToSeal; met = can_seal_of m said }
    ∷ []

pub seal_facts : (m : Modem) (said tek vector : ℕ) → (seal_of m said tek vector).answer ≡ Done → SealFacts m said tek vector
unfolding seal_of seal_answer_of seal_asked_of
seal_facts m said tek vector e =
    let t = machine_of m said in
    let w = width_of t.suite in
    let k = t.pair.newer in
    let a = seal_answer_of m said tek vector in
    let d : a ≡ Done = sealed_done a w k e in
    let q = done_met (seal_questions m said tek vector) d in
    let one = both (modem_fits_of m) (leb said 16383) q.0 in
    let found = known_inside m said q.1.1.0 in
    let can = both (eqb t.pair.held 1) (ltb m.clock k.deadline) q.1.1.1.0 in
    let held = eqb-true t.pair.held 1 can.0 in
    let number : (sealed_for a w k).number ≡ k.number = ap (λ (b : Answer). (sealed_for b w k).number) d in
    record {
      fits = one.0;
      inside = found.0;
      said_is = found.2;
      held = held;
      counts = ltb-true m.clock k.deadline can.1;
      number = number;
      out = ap (λ (b : Answer). (sealed_for b w k).out) d;
      range = leb-true said 16383 one.1;
      number_range = ap tek_in_range_of number ∙ (pair_numbers w m.clock t.pair.older k (slot_pair m one.0 (slot_of_said_of m said) found.0 held)).1;
    }

-- ---- opening: the four questions
abbrev pub frame_in : Modem → ℕ → ℕ → ℕ → TekNumber → Bool
frame_in m direction address said number =
    modem_fits_of m && eqb direction 1 && ltb address 281474976710656 && leb said 16383 && tek_in_range_of number

-- question 2: the message key and the lent slices
abbrev pub slices_long_of : List ℕ → ℕ → ℕ → ℕ → Bool
slices_long_of write tek vector lent = message_key_fits_of write && leb 16 tek && leb 16 vector && leb 216 lent

abbrev pub is_here : Modem → ℕ → ℕ → Bool
is_here m address said = eqb address m.address && is_known_of m said

-- question 1 says that the modem is within its limits
pub frame-fits : (m : Modem) (direction address said : ℕ) (number : TekNumber) → frame_in m direction address said number ≡ true → modem_fits_of m ≡ true
frame-fits m direction address said number e =
    let s₄ = both (modem_fits_of m && eqb direction 1 && ltb address 281474976710656 && leb said 16383) (tek_in_range_of number) e in
    let s₃ = both (modem_fits_of m && eqb direction 1 && ltb address 281474976710656) (leb said 16383) s₄.0 in
    let s₂ = both (modem_fits_of m && eqb direction 1) (ltb address 281474976710656) s₃.0 in
    (both (modem_fits_of m) (eqb direction 1) s₂.0).0

module _ (m : Modem) (direction address said : ℕ) (number : TekNumber) (write : List ℕ) (tek vector lent : ℕ) where
  -- what holds of each answer's opening holds of the opening
  pub open_by : (P : ModemOpened → Type 0)
      → (frame_in m direction address said number ≡ false → P (opened_for (Refused OutOfLimits) m said number write))
      → (slices_long_of write tek vector lent ≡ false → P (opened_for (Refused WrongLength) m said number write))
      → (is_here m address said ≡ false → P (opened_for (Refused UnknownSaid) m said number write))
      → (frame_in m direction address said number ≡ true → is_here m address said ≡ true → can_open_of m said number ≡ false → P (opened_for (Refused NoKeyForFrame) m said number write))
      → (frame_in m direction address said number ≡ true → is_here m address said ≡ true → can_open_of m said number ≡ true → P (opened_for Done m said number write))
      → P (open_of m direction address said number write tek vector lent)
  unfolding open_of open_answer_of open_asked_of
  open_by P p₁ p₂ p₁₀ p₁₃ p₀ =
      go (frame_in m direction address said number) refl (slices_long_of write tek vector lent) refl (is_here m address said) refl (can_open_of m said number) refl
    where
      go : (a : Bool) → frame_in m direction address said number ≡ a → (b : Bool) → slices_long_of write tek vector lent ≡ b
          → (c : Bool) → is_here m address said ≡ c → (d : Bool) → can_open_of m said number ≡ d
          → P (opened_for (cond a (cond b (cond c (cond d Done (Refused NoKeyForFrame)) (Refused UnknownSaid)) (Refused WrongLength)) (Refused OutOfLimits)) m said number write)
      go false ea b eb c ec d ed = p₁ ea
      go true ea false eb c ec d ed = p₂ eb
      go true ea true eb false ec d ed = p₁₀ ec
      go true ea true eb true ec false ed = p₁₃ ea ec ed
      go true ea true eb true ec true ed = p₀ ea ec ed

-- ---- a frame that is opened
pub record OpenFacts (m : Modem) (address said : ℕ) (number : TekNumber) (o : ModemOpened) : Type 0 where
  pub done : o.answer ≡ Done
  pub inside : slot_of_said_of m said < m.used
  pub said_is : (machine_of m said).said ≡ said
  pub held : (machine_of m said).pair.held ≡ 1
  pub address_is : address ≡ m.address
  pub key : TrafficKey
  pub which : (key ≡ (machine_of m said).pair.older) ⊎ (key ≡ (machine_of m said).pair.newer)
  pub number_is : key.number ≡ number
  pub counts : m.clock < key.deadline
  pub out : o.out ≡ key_out (width_of (machine_of m said).suite) key

-- refused with 10, refused with 13, or opened
abbrev pub OpenCases : Modem → ℕ → ℕ → TekNumber → ModemOpened → Type 0
OpenCases m address said number o =
    (answer_number_of o.answer ≡ 10) ⊎ ((answer_number_of o.answer ≡ 13) ⊎ OpenFacts m address said number o)

opened_facts : (m : Modem) (address said : ℕ) (number : TekNumber) (write : List ℕ) → is_here m address said ≡ true → can_open_of m said number ≡ true
    → OpenFacts m address said number (opened_for Done m said number write)
opened_facts m address said number write here can =
    let t = machine_of m said in
    let older = t.pair.older in
    let newer = t.pair.newer in
    let at = both (eqb address m.address) (is_known_of m said) here in
    let found = known_inside m said at.1 in
    let c = opens_held m.clock number t.pair can in
    let k = opening_key m.clock number older newer (ap opens (sym c.1) ∙ can) in
    let value = ap (λ (o : Opening). opening_key_of o older newer) c.1 ∙ k.4 in
    record {
      done = refl;
      inside = found.0;
      said_is = found.2;
      held = c.0;
      address_is = eqb-true address m.address at.0;
      key = k.0;
      which = k.1;
      number_is = k.2;
      counts = k.3;
      out = ap (key_out_of (width_of t.suite)) value;
    }

-- a modem within its limits refuses such an opening with 10 or 13 alone
pub open_cases : (m : Modem) (address said : ℕ) (number : TekNumber) (write : List ℕ) (tek vector lent : ℕ) → modem_fits_of m ≡ true → address < 281474976710656
    → said ≤ 16383 → tek_in_range_of number ≡ true → length write ≡ 20 → 16 ≤ tek → 16 ≤ vector → 216 ≤ lent
    → OpenCases m address said number (open_of m 1 address said number write tek vector lent)
open_cases m address said number write tek vector lent fits below small range k t v l =
    let met : frame_in m 1 address said number ≡ true = simp (fits, lt-ltb address 281474976710656 below, le-leb said 16383 small, range) in
    let long : slices_long_of write tek vector lent ≡ true = simp (eq-eqb (length write) 20 k, le-leb 16 tek t, le-leb 16 vector v, le-leb 216 lent l) in
    open_by m 1 address said number write tek vector lent (OpenCases m address said number)
    (λ e. never (sym e ∙ met))
    (λ e. never (sym e ∙ long))
    (λ e. inl refl)
    (λ i h e. inr (inl refl))
    (λ i h e. inr (inr (opened_facts m address said number write h e)))

-- 13 is answered within the limits, for a SAID that is known
pub open_13 : (m : Modem) (direction address said : ℕ) (number : TekNumber) (write : List ℕ) (tek vector lent : ℕ)
    → answer_number_of (open_answer_of m direction address said number write tek vector lent) ≡ 13 → (modem_fits_of m ≡ true) × (is_known_of m said ≡ true)
unfolding open_answer_of open_asked_of
open_13 m direction address said number write tek vector lent =
    go (frame_in m direction address said number) refl (slices_long_of write tek vector lent) (is_here m address said) refl (can_open_of m said number)
  where
    go : (a : Bool) → frame_in m direction address said number ≡ a → (b c : Bool) → is_here m address said ≡ c → (d : Bool)
        → answer_number_of (cond a (cond b (cond c (cond d Done (Refused NoKeyForFrame)) (Refused UnknownSaid)) (Refused WrongLength)) (Refused OutOfLimits)) ≡ 13
        → (modem_fits_of m ≡ true) × (is_known_of m said ≡ true)
    go false ea b c ec d e = absurd (omega (arith, e))
    go true ea false c ec d e = absurd (omega (arith, e))
    go true ea true false ec d e = absurd (omega (arith, e))
    go true ea true true ec d e = (frame-fits m direction address said number ea, (both (eqb address m.address) (is_known_of m said) ec).1)

-- Where the pairs of traffic keys come from that the modem holds after a call: the slots before it, or the Key Reply it has taken.
use mathlib.Core.Path.{◌≡◌, refl, sym, ◌∙◌, subst}
use mathlib.Core.Bool.{Bool, true, false, ◌&&◌, ◌||◌, cond}
use mathlib.Core.Logic.{◌⊎◌, inl, inr}
use mathlib.Core.List.{List}
use Prim.Native.Nat.{ℕ, ◌<◌}
use native.Mathlib.Omega.{arith}
use lib.Dec.{ltb, eqb}
use borrow.Author.Tests.{ltb-true, eqb-true}
use Rattle.questions.specs.Answer.{Answer, Done, Refused}
use Rattle.questions.specs.declared.settings.Settings.{Settings}
use Rattle.questions.specs.Questions.{first_no}
use Rattle.questions.specs.Settings.{no_settings_of}
use Rattle.key_traffic.specs.Suites.{width_of}
use Rattle.questions.proofs.TestLaws.{both}
use Rattle.message_rules.specs.declared.fields.Fields.{Fields}
use Rattle.message_rules.specs.declared.fields.Receiver.TheVariants.{Modem as AtModem}
use Rattle.message_rules.specs.Messages.{message_answer}
use Rattle.modem_tek.specs.declared.parts.Pair.{Pair}
use Rattle.modem_tek.specs.declared.tek.Tek.{Tek}
use Rattle.modem_tek.specs.TekParts.{pair_of}
use Rattle.modem_steps.specs.declared.state.Modem.{Modem}
use Rattle.modem_steps.specs.declared.state.Progress.{Progress}
use Rattle.modem_steps.specs.State.{with_clock_of, slot_at, starting}
use Rattle.modem_steps.specs.Slots.{first_slot, slot_of_said_of, is_waiting_of}
use Rattle.modem_steps.specs.Machine.{plain_event_of}
use Rattle.modem_steps.specs.Clock.{clocked}
use Rattle.modem_receive.specs.Receive.{params_wide, digest_holds_of as question12, fields_in, received}
use Rattle.modem_limits.specs.Limits.{modem_fits_of}
use Rattle.message_rules.specs.Reading.{taken_of}
use Rattle.message_digest.specs.Digest.{digest_holds_of}
use Rattle.modem_calls.specs.Messages.{no_key_of}
use Rattle.modem_calls.specs.Calls.{result_of, first_questions, new_questions, new_for, new_value, event_of, established_of, reauth_of, clock_answer_of, clock_of, receive_answer_of, receive_of}
use Rattle.modem_receive.proofs.ReceiveLaws.{known_slot, widths_known, identifier_tek, by_received}
use Rattle.modem_calls.proofs.CallLaws.{Asked, receive_asked}
use Rattle.modem_calls.proofs.PairSteps.{AllPairs, SameRest, rest_same, Carries, fresh_pairs, starting_carries, reply_carries, deliver_carries, plain_carries, replied_carries, rejected_carries, invalidated_carries, clocked_carries}

-- ---- the slot that a search finds is in use, and the test holds there
pub first_found : (f : Tek → Bool) (m : Modem) → first_slot f m < 4 → (first_slot f m < m.used) × (f (slot_at m (first_slot f m)) ≡ true)
unfolding first_slot
first_found f m = go (at 0) refl (at 1) refl (at 2) refl (at 3) refl
  where
    at : ℕ → Bool
    at i = ltb i m.used && f (slot_at m i)

    here : (i : ℕ) → at i ≡ true → (i < m.used) × (f (slot_at m i) ≡ true)
    here i e = let h = both (ltb i m.used) (f (slot_at m i)) e in (ltb-true i m.used h.0, h.1)

    found : Bool → Bool → Bool → Bool → ℕ
    found a b c d = cond a 0 (cond b 1 (cond c 2 (cond d 3 4)))

    go : (a : Bool) → at 0 ≡ a → (b : Bool) → at 1 ≡ b → (c : Bool) → at 2 ≡ c → (d : Bool) → at 3 ≡ d
        → found a b c d < 4 → (found a b c d < m.used) × (f (slot_at m (found a b c d)) ≡ true)
    go true ea b eb c ec d ed h = here 0 ea
    go false ea true eb c ec d ed h = here 1 eb
    go false ea false eb true ec d ed h = here 2 ec
    go false ea false eb false ec true ed h = here 3 ed
    go false ea false eb false ec false ed h = absurd (omega arith)

-- ---- a call: what holds of the modem before it, and of what is done where no question is failed, holds after it
result_either : (a : Answer) (m : Modem) (key : List ℕ) (w : Progress) (P : Modem → Type 0) → P m
    → ((result_of a m key w).called.answer ≡ Done → a ≡ Done → P w.modem)
    → P (result_of a m key w).called.modem
result_either Done m key w P old new = new refl refl
result_either (Refused r) m key w P old new = old

done_result : (a : Answer) (m : Modem) (key : List ℕ) (w : Progress) (P : Modem → Type 0) → P w.modem → (result_of a m key w).called.answer ≡ Done
    → P (result_of a m key w).called.modem
done_result Done m key w P new e = new
done_result (Refused r) m key w P new e = let z : ◌≡◌ {A = ℕ} 0 1 = cc in absurd (omega arith)

-- ---- a Key Reply that is taken: what questions 6 to 12 have asked of it. Its slot is the SAID's
abbrev pub reply_slot : Modem → List ℕ → Tek
reply_slot m s = slot_at m (slot_of_said_of m (fields_in s).said)

pub record KeyReplyTaken (m : Modem) (s key : List ℕ) : Type 0 where
  pub fits : modem_fits_of m ≡ true
  pub read : message_answer AtModem s ≡ Done
  pub code : (fields_in s).code ≡ 8
  pub in_use : slot_of_said_of m (fields_in s).said < m.used
  pub same : (reply_slot m s).said ≡ (fields_in s).said
  pub older_wide : params_wide (width_of (reply_slot m s).suite) (fields_in s).older ≡ true
  pub newer_wide : params_wide (width_of (reply_slot m s).suite) (fields_in s).newer ≡ true
  pub waits : is_waiting_of (reply_slot m s) ≡ true
  pub identifier : (reply_slot m s).identifier ≡ (fields_in s).identifier
  pub holds : digest_holds_of key (taken_of s).digest s ≡ true

pub reply_taken : (m : Modem) (s read : List ℕ) → Asked m s read → (fields_in s).code ≡ 8 → KeyReplyTaken m s read
unfolding question12
reply_taken m s read a eight =
    let f = fields_in s in
    let i = slot_of_said_of m f.said in
    let one : (eqb f.code 8 || eqb f.code 9) ≡ true = rw eight refl in
    let other : (eqb f.code 5 || eqb f.code 6) ≡ false = rw eight refl in
    let in_four : i < 4 = known_slot m f one a.known in
    let found = first_found (λ t. eqb t.said f.said) m in_four in
    let w = width_of (slot_at m i).suite in
    let wide = both (params_wide w f.older) (params_wide w f.newer) (widths_known m f eight in_four ∙ a.wide) in
    let asks = both (is_waiting_of (slot_at m i)) (eqb (slot_at m i).identifier f.identifier) (identifier_tek m f other one ∙ a.answers) in
    record {
      fits = a.fits;
      read = a.read;
      code = eight;
      in_use = found.0;
      same = eqb-true (slot_at m i).said f.said found.1;
      older_wide = wide.0;
      newer_wide = wide.1;
      waits = asks.0;
      identifier = eqb-true (slot_at m i).identifier f.identifier asks.1;
      holds = rw eight at a.holds;
    }

module _ (Q : ℕ → ℕ → Pair → Type 0) (m : Modem) where
  -- ---- a message that is taken
  pub received_carries : (f : Fields) → (f.code ≡ 8 → Q (slot_at m (slot_of_said_of m f.said)).said (slot_at m (slot_of_said_of m f.said)).suite (pair_of m.clock f.older f.newer))
      → AllPairs Q m → Carries Q m (received m f)
  received_carries f new p =
      let i = slot_of_said_of m f.said in
      let c = starting_carries Q m p in
      by_received m f (Carries Q m)
      (λ e. replied_carries Q m f p)
      (λ e. rejected_carries Q m f.error p)
      (λ e. reply_carries Q m (starting m) i 8 f.older f.newer (λ _ _ _. new e) c)
      (λ e. deliver_carries Q m (starting m) i 9 refl c)
      (λ e. invalidated_carries Q m f.identifier p)
      (λ n₅ n₆ n₁₀. deliver_carries Q m (starting m) i 5 refl c)

  -- ---- the calls
  module _ (lent : ℕ) (p : AllPairs Q m) where
    event_pairs : (event : ℕ) → AllPairs Q (event_of event m lent).called.modem
    unfolding event_of
    event_pairs event =
        result_either (first_no (first_questions m true lent)) m no_key_of (plain_event_of (starting m) event) (AllPairs Q) p
        (λ _ _. (plain_carries Q m (starting m) event (starting_carries Q m p)).pairs)

    pub established_pairs : AllPairs Q (established_of m lent).called.modem
    established_pairs = event_pairs 1

    pub reauth_pairs : AllPairs Q (reauth_of m lent).called.modem
    reauth_pairs = event_pairs 8

    pub clock_pairs : (t : ℕ) (write : List ℕ) → AllPairs Q (clock_of m t write lent).called.modem
    unfolding clock_of
    clock_pairs t write =
        result_either (clock_answer_of m t write lent) m write (clocked m t) (AllPairs Q) p (λ _ _. (clocked_carries Q m t p).pairs)

    -- a Key Reply that is taken brings its pair to the slot of its SAID; no other message brings one
    pub receive_pairs : (s read write : List ℕ)
        → ((receive_of m s read write lent).called.answer ≡ Done → KeyReplyTaken m s read
        → Q (fields_in s).said (reply_slot m s).suite (pair_of m.clock (fields_in s).older (fields_in s).newer))
        → AllPairs Q (receive_of m s read write lent).called.modem
    unfolding receive_of
    receive_pairs s read write new =
        let f = fields_in s in
        result_either (receive_answer_of m s read write lent) m write (received m f) (AllPairs Q) p
        (λ d e.
        (received_carries f
        (λ eight.
        let k = reply_taken m s read (receive_asked m s read write lent e) eight in
        subst (λ (said : ℕ). Q said (reply_slot m s).suite (pair_of m.clock f.older f.newer)) (sym k.same) (new d k))
        p).pairs)

-- ---- where a pair comes from, said outright: a slot that had the same pair for the same SAID and suite, or the Key Reply that is taken
abbrev pub HeldBy : Modem → ℕ → ℕ → Pair → Type 0
HeldBy m said suite p = (j : ℕ) × (j < m.used) × ((slot_at m j).said ≡ said) × ((slot_at m j).suite ≡ suite) × ((slot_at m j).pair ≡ p)

abbrev pub BroughtBy : Modem → List ℕ → List ℕ → ℕ → ℕ → Pair → Type 0
BroughtBy m s read said suite p =
    KeyReplyTaken m s read × (said ≡ (fields_in s).said) × (suite ≡ (reply_slot m s).suite) × (p ≡ pair_of m.clock (fields_in s).older (fields_in s).newer)

pub own_pairs : (m : Modem) → AllPairs (HeldBy m) m
own_pairs m i h q = (i, h, refl, refl, refl)

pub receive_from : (m : Modem) (lent : ℕ) (s read write : List ℕ)
    → AllPairs (λ said suite p. HeldBy m said suite p ⊎ BroughtBy m s read said suite p) (receive_of m s read write lent).called.modem
receive_from m lent s read write =
    receive_pairs (λ said suite p. HeldBy m said suite p ⊎ BroughtBy m s read said suite p) m lent (λ i h q. inl (own_pairs m i h q)) s read write
    (λ d k. inr (k, refl, refl, refl))

-- a new modem holds none
pub new_pairs : (Q : ℕ → ℕ → Pair → Type 0) (settings : Settings) (address said : ℕ) → AllPairs Q (new_value settings address said).modem
unfolding new_value
new_pairs Q settings address said = go (first_no (new_questions settings address said))
  where
    go : (a : Answer) → AllPairs Q (new_for a settings address said).modem
    go Done = fresh_pairs Q settings address said
    go (Refused r) = fresh_pairs Q no_settings_of 0 0

-- ---- the rest of the modem: a call changes the counter, the machines and the slots, and the clock call the clock
abbrev Any : ℕ → ℕ → Pair → Type 0
Any said suite p = Unit {0}

module _ (m : Modem) (lent : ℕ) where
  any : (n : Modem) → AllPairs Any n
  any n i h q = tt

  event_rest : (event : ℕ) → SameRest m (event_of event m lent).called.modem
  unfolding event_of
  event_rest event =
      result_either (first_no (first_questions m true lent)) m no_key_of (plain_event_of (starting m) event) (SameRest m) (rest_same m)
      (λ _ _. (plain_carries Any m (starting m) event (starting_carries Any m (any m))).rest)

  pub established_keeps : SameRest m (established_of m lent).called.modem
  established_keeps = event_rest 1

  pub reauth_keeps : SameRest m (reauth_of m lent).called.modem
  reauth_keeps = event_rest 8

  pub receive_keeps : (s read write : List ℕ) → SameRest m (receive_of m s read write lent).called.modem
  unfolding receive_of
  receive_keeps s read write =
      result_either (receive_answer_of m s read write lent) m write (received m (fields_in s)) (SameRest m) (rest_same m)
      (λ _ _. (received_carries Any m (fields_in s) (λ _. tt) (any m)).rest)

  -- done, the clock is t
  pub clock_done : (t : ℕ) (write : List ℕ) → (clock_of m t write lent).called.answer ≡ Done → SameRest (with_clock_of m t) (clock_of m t write lent).called.modem
  unfolding clock_of
  clock_done t write =
      done_result (clock_answer_of m t write lent) m write (clocked m t) (SameRest (with_clock_of m t)) (clocked_carries Any m t (any m)).rest

  -- done or refused, nothing but the clock
  pub clock_keeps : (t : ℕ) (write : List ℕ) → SameRest (with_clock_of m (clock_of m t write lent).called.modem.clock) (clock_of m t write lent).called.modem
  unfolding clock_of
  clock_keeps t write =
      result_either (clock_answer_of m t write lent) m write (clocked m t) (λ n. SameRest (with_clock_of m n.clock) n)
      (record { settings = refl; address = refl; said = refl; clock = refl; taken = refl; refused = refl })
      (λ _ _.
      let r = (clocked_carries Any m t (any m)).rest in
      record { settings = r.settings; address = r.address; said = r.said; clock = refl; taken = r.taken; refused = r.refused })

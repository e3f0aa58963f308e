-- Where the pairs of traffic keys come from that the slots hold after a step: the slots before it, or the Key Reply that is told.
use mathlib.Core.Path.{◌≡◌, refl, sym, ◌∙◌, ap, subst}
use mathlib.Core.Bool.{Bool, true, false, ◌&&◌, ◌||◌, cond, not}
use mathlib.Core.List.{List}
use Prim.Native.Nat.{ℕ, zero, suc, ◌+◌, ◌<◌}
use native.Mathlib.Omega.{arith}
use lib.Dec.{ltb, leb, eqb}
use lib.ListN.{length, get_or, set, get_or-eq_default}
use lib.Seq.{get_or-set_same, get_or-set_other, set_out}
use borrow.Author.Tests.{ltb-true, eqb-true, eqb-false}
use Rattle.key_traffic.specs.declared.numbers.AkNumber.{AkNumber}
use Rattle.questions.specs.declared.settings.Settings.{Settings}
use Rattle.questions.proofs.TestLaws.{both}
use Rattle.questions.proofs.ListLaws.{IfLt, if_lt}
use Rattle.message_rules.specs.declared.fields.Fields.{Fields}
use Rattle.message_rules.specs.declared.fields.Params.{Params}
use Rattle.message_rules.specs.Fields.{no_params_of}
use Rattle.message_rules.proofs.HoldsLaws.{never}
use Rattle.modem_authorization.specs.declared.authorization.Authorization.{Authorization}
use Rattle.modem_tek.specs.declared.parts.Pair.{Pair}
use Rattle.modem_tek.specs.declared.tek.Tek.{Tek}
use Rattle.modem_tek.specs.declared.tek.TekContext.{TekContext}
use Rattle.modem_tek.specs.declared.tek.TekStep.{TekStep}
use Rattle.modem_transitions.specs.Transitions.{A, D, blank, authorization_next_of, tek_next_of}
use Rattle.modem_transitions.specs.Timers.{is_due_of}
use Rattle.modem_tek.specs.TekParts.{no_pair_of, pair_of}
use Rattle.modem_tek.specs.Tek.{pair_after_of, tek_moved, tek_stays, tek_step_of}
use Rattle.modem_steps.specs.declared.state.Modem.{Modem}
use Rattle.modem_steps.specs.declared.state.Progress.{Progress}
use Rattle.modem_steps.specs.State.{with_machines, with_clock_of, past_tek, slot_at, starting, fresh_of}
use Rattle.modem_steps.specs.Slots.{tek_context_of, stepped_at_of, deliver_reply_of, deliver, deliver_all_of, slot_of_said_of, slot_asking_of}
use Rattle.modem_reply.specs.Listed.{descriptor_at_of, lists}
use Rattle.modem_reply.specs.Relist.{emptied, placed, appended, kept_if_of, kept_one_of, kept_to, fresh_tek_of, started_if_of, started_one_of, started_to, listed_anew_of, relisted}
use Rattle.modem_steps.specs.Machine.{auth_stepped_of, deliver_auth_of, plain_event_of}
use Rattle.modem_reply.specs.Replied.{replied}
use Rattle.modem_receive.specs.Events.{reject_event_of, rejected, pended_if, invalidated}
use Rattle.modem_steps.specs.Clock.{auth_timer_event_of, tek_timer_event_of, auth_fired_of, slot_fired_of, slots_fired_of, clocked}
use Rattle.modem_calls.proofs.KeptSteps.{set_cases}

-- ---- a property Q of SAID, suite and pair, of a machine that holds a pair, and of all slots in use
abbrev pub PairOk : (ℕ → ℕ → Pair → Type 0) → Tek → Type 0
PairOk Q t = t.pair.held ≡ 1 → Q t.said t.suite t.pair

abbrev pub AllPairs : (ℕ → ℕ → Pair → Type 0) → Modem → Type 0
AllPairs Q m = (i : ℕ) → i < m.used → PairOk Q (slot_at m i)

-- ---- all but the counter, the machines and the slots is the same
pub record SameRest (m n : Modem) : Type 0 where
  pub settings : n.settings ≡ m.settings
  pub address : n.address ≡ m.address
  pub said : n.said ≡ m.said
  pub clock : n.clock ≡ m.clock
  pub taken : n.taken ≡ m.taken
  pub refused : n.refused ≡ m.refused

pub rest_same : (m : Modem) → SameRest m m
rest_same m = record { settings = refl; address = refl; said = refl; clock = refl; taken = refl; refused = refl }

rest_on : (m n : Modem) (counter : ℕ) (a : Authorization) (used : ℕ) (teks : List Tek) → SameRest m n → SameRest m (with_machines n counter a used teks)
rest_on m n counter a used teks r =
    record { settings = r.settings; address = r.address; said = r.said; clock = r.clock; taken = r.taken; refused = r.refused }

-- What a piece of work on modem m has kept: Q of every pair held, and the rest of m
pub record Carries (Q : ℕ → ℕ → Pair → Type 0) (m : Modem) (w : Progress) : Type 0 where
  pub pairs : AllPairs Q w.modem
  pub rest : SameRest m w.modem

-- a TEK machine's timer does not tell 8
timer_event : (state : ℕ) → eqb (tek_timer_event_of state) 8 ≡ false
unfolding tek_timer_event_of
timer_event state = go (eqb state D)
  where
    go : (b : Bool) → eqb (cond b 7 6) 8 ≡ false
    go true = refl
    go false = refl

module _ (Q : ℕ → ℕ → Pair → Type 0) where
  -- ---- one machine: only event 8 makes a pair, and only where it is no blank
  pub step_pair : (t : Tek) (event : ℕ) (x : TekContext) (older newer : Params)
      → (eqb event 8 ≡ true → eqb (tek_next_of event t.state) blank ≡ false → Q t.said t.suite (pair_of x.clock older newer))
      → PairOk Q t → PairOk Q (tek_step_of t event x older newer).machine
  unfolding tek_step_of tek_moved pair_after_of
  step_pair t event x older newer new old = go (eqb (tek_next_of event t.state) blank) refl
    where
      after : Bool → Bool → Pair
      after drops makes = cond drops no_pair_of (cond makes (pair_of x.clock older newer) t.pair)

      made : (drops makes : Bool) → (makes ≡ true → Q t.said t.suite (pair_of x.clock older newer))
          → (after drops makes).held ≡ 1 → Q t.said t.suite (after drops makes)
      made true makes n h = absurd (omega arith)
      made false true n h = n refl
      made false false n h = old h

      go : (b : Bool) → eqb (tek_next_of event t.state) blank ≡ b
          → PairOk Q (cond b (tek_stays t x) (tek_moved event (tek_next_of event t.state) t x older newer)).machine
      go true e = old
      go false e = made (eqb event 1 || eqb event 5 || eqb event 9) (eqb event 8) (λ q. new q e)

  pub plain_pair : (t : Tek) (event : ℕ) (x : TekContext) → eqb event 8 ≡ false → PairOk Q t → PairOk Q (tek_step_of t event x no_params_of no_params_of).machine
  plain_pair t event x other = step_pair t event x no_params_of no_params_of (λ q e. never (sym other ∙ q))

  -- ---- one machine more
  put-pair : (l : List Tek) (n : ℕ) (t : Tek) → PairOk Q t → ((i : ℕ) → i < n → PairOk Q (get_or l i past_tek))
      → (i : ℕ) → i < n + 1 → PairOk Q (get_or (set l n t) i past_tek)
  put-pair l n t new old i h = go (eqb i n) refl
    where
      here : (b : Bool) → IfLt n (length l) b → PairOk Q (get_or (set l n t) n past_tek)
      here true inside = subst (PairOk Q) (sym (get_or-set_same l n t past_tek inside)) new
      here false over =
          let past : get_or (set l n t) n past_tek ≡ past_tek = ap (λ (k : List Tek). get_or k n past_tek) (set_out l n t over) ∙ get_or-eq_default l past_tek over in
          subst (PairOk Q) (sym past) (λ q. absurd (omega arith))

      go : (b : Bool) → eqb i n ≡ b → PairOk Q (get_or (set l n t) i past_tek)
      go true e =
          let same : n ≡ i = sym (eqb-true i n e) in
          subst (λ (k : ℕ). PairOk Q (get_or (set l n t) k past_tek)) same (here (ltb n (length l)) (if_lt n (length l)))
      go false e = subst (PairOk Q) (sym (get_or-set_other l n i t past_tek (eqb-false i n e))) (old i (omega (arith, eqb-false i n e)))

  pub fresh_pairs : (settings : Settings) (address said : ℕ) → AllPairs Q (fresh_of settings address said)
  fresh_pairs settings address said i h = absurd (omega arith)

  module _ (m : Modem) where
    pub starting_carries : AllPairs Q m → Carries Q m (starting m)
    starting_carries p = record { pairs = p; rest = rest_same m }

    pub either_carries : (b : Bool) (v w : Progress) → (b ≡ true → Carries Q m v) → Carries Q m w → Carries Q m (cond b v w)
    either_carries true v w p q = p refl
    either_carries false v w p q = q

    -- ---- a slot takes an event; of a Key Reply it takes the pair where the event is no blank
    pub reply_carries : (w : Progress) (i event : ℕ) (older newer : Params)
        → (eqb event 8 ≡ true → i < w.modem.used → eqb (tek_next_of event (slot_at w.modem i).state) blank ≡ false
        → Q (slot_at w.modem i).said (slot_at w.modem i).suite (pair_of w.modem.clock older newer))
        → Carries Q m w → Carries Q m (deliver_reply_of w i event older newer)
    unfolding deliver_reply_of stepped_at_of
    reply_carries w i event older newer new c =
        let v = w.modem in
        let s = tek_step_of (slot_at v i) event (tek_context_of v) older newer in
        record {
          pairs = λ j. set_cases (λ k u. k < v.used → PairOk Q u) v.teks i s.machine j
              (λ _ h. step_pair (slot_at v i) event (tek_context_of v) older newer (λ q e. new q h e) (c.pairs i h)) (c.pairs j);
          rest = rest_on m v s.counter v.authorization v.used (set v.teks i s.machine) c.rest;
        }

    pub deliver_carries : (w : Progress) (i event : ℕ) → eqb event 8 ≡ false → Carries Q m w → Carries Q m (deliver w i event)
    deliver_carries w i event other = reply_carries w i event no_params_of no_params_of (λ q h e. never (sym other ∙ q))

    pub all_carries : (k event : ℕ) (w : Progress) → eqb event 8 ≡ false → Carries Q m w → Carries Q m (deliver_all_of k event w)
    unfolding deliver_all_of
    all_carries zero event w other c = c
    all_carries (suc k) event w other c = deliver_carries (deliver_all_of k event w) k event other (all_carries k event w other c)

    -- ---- the authorization machine takes an event
    pub auth_carries : (w : Progress) (event : ℕ) (ak : AkNumber) (life : ℕ) → Carries Q m w → Carries Q m (deliver_auth_of w event ak life)
    unfolding deliver_auth_of auth_stepped_of
    auth_carries w event ak life c =
        record { pairs = c.pairs; rest = rest_on m w.modem _ _ w.modem.used w.modem.teks c.rest }

    pub plain_carries : (w : Progress) (event : ℕ) → Carries Q m w → Carries Q m (plain_event_of w event)
    plain_carries w event = auth_carries w event (record { 0 = 0 }) 0

    -- ---- the clock
    pub fired_carries : (k : ℕ) (w : Progress) → Carries Q m w → Carries Q m (slots_fired_of k w)
    unfolding slots_fired_of slot_fired_of
    fired_carries zero w c = c
    fired_carries (suc k) w c =
        let v = slots_fired_of k w in
        let before = fired_carries k w c in
        let event = tek_timer_event_of (slot_at v.modem k).state in
        either_carries (is_due_of (slot_at v.modem k).timer v.modem.clock) (deliver v k event) v
        (λ _. deliver_carries v k event (timer_event (slot_at v.modem k).state) before) before

    pub auth_fired_carries : (w : Progress) → Carries Q m w → Carries Q m (auth_fired_of w)
    unfolding auth_fired_of
    auth_fired_carries w c =
        let event = auth_timer_event_of w.modem.authorization.state in
        either_carries (is_due_of w.modem.authorization.timer w.modem.clock) (plain_event_of w event) w (λ _. plain_carries w event c) c

    -- ---- the slots after an Authorization Reply
    pub emptied_carries : (w : Progress) → Carries Q m w → Carries Q m (emptied w)
    unfolding emptied
    emptied_carries w c =
        record { pairs = λ i h. absurd (omega arith); rest = rest_on m w.modem _ _ 0 _ c.rest }

    pub appended_carries : (w : Progress) (s : TekStep) → PairOk Q s.machine → Carries Q m w → Carries Q m (appended w s)
    unfolding appended
    appended_carries w s new c = go (leb 4 w.modem.used)
      where
        v : Modem
        v = w.modem

        go : (b : Bool) → Carries Q m (cond b w (placed w s))
        go true = c
        go false =
            record {
              pairs = put-pair v.teks v.used s.machine new c.pairs;
              rest = rest_on m v s.counter v.authorization (v.used + 1) (set v.teks v.used s.machine) c.rest;
            }

    -- those that go on
    pub kept_carries : (k : ℕ) (f : Fields) (old : Modem) (w : Progress) → AllPairs Q old → Carries Q m w → Carries Q m (kept_to k f old w)
    unfolding kept_to kept_one_of kept_if_of
    kept_carries zero f old w p c = c
    kept_carries (suc k) f old w p c =
        let t = slot_at old k in
        let v = kept_to k f old w in
        let before = kept_carries k f old w p c in
        let listed = lists f t.said t.suite in
        let moved = not (eqb t.state A) in
        either_carries (ltb k old.used && listed && moved) (appended v (tek_step_of t 4 (tek_context_of v.modem) no_params_of no_params_of)) v
        (λ e.
        let in_use : k < old.used = ltb-true k old.used (both (ltb k old.used) listed (both (ltb k old.used && listed) moved e).0).0 in
        appended_carries v (tek_step_of t 4 (tek_context_of v.modem) no_params_of no_params_of) (plain_pair t 4 (tek_context_of v.modem) refl (p k in_use)) before)
        before

    -- those that start hold no pair
    pub started_carries : (k : ℕ) (f : Fields) (w : Progress) → Carries Q m w → Carries Q m (started_to k f w)
    unfolding started_to started_one_of started_if_of
    started_carries zero f w c = c
    started_carries (suc k) f w c =
        let d = descriptor_at_of f k in
        let v = started_to k f w in
        let before = started_carries k f w c in
        either_carries (ltb k f.count && leb 4 (slot_of_said_of v.modem d.said)) (appended v (tek_step_of (fresh_tek_of d) 2 (tek_context_of v.modem) no_params_of no_params_of)) v
        (λ _.
        appended_carries v (tek_step_of (fresh_tek_of d) 2 (tek_context_of v.modem) no_params_of no_params_of)
        (plain_pair (fresh_tek_of d) 2 (tek_context_of v.modem) refl (λ q. absurd (omega arith))) before)
        before

    pub anew_carries : (f : Fields) (w : Progress) → Carries Q m w → Carries Q m (listed_anew_of f w)
    unfolding listed_anew_of
    anew_carries f w c = started_carries 4 f (emptied w) (emptied_carries w c)

    pub relisted_carries : (f : Fields) (w : Progress) → Carries Q m w → Carries Q m (relisted f w)
    unfolding relisted
    relisted_carries f w c =
        started_carries 4 f (kept_to 4 f w.modem (emptied w)) (kept_carries 4 f w.modem (emptied w) c.pairs (emptied_carries w c))

    -- ---- the messages about authorization
    pub replied_carries : (f : Fields) → AllPairs Q m → Carries Q m (replied m f)
    unfolding replied
    replied_carries f p =
        let w = deliver_auth_of (starting m) 4 f.ak f.life in
        let c : Carries Q m w = auth_carries (starting m) 4 f.ak f.life (starting_carries p) in
        either_carries (eqb m.authorization.state D) (relisted f w) (listed_anew_of f w) (λ _. relisted_carries f w c) (anew_carries f w c)

    pub rejected_carries : (error : ℕ) → AllPairs Q m → Carries Q m (rejected m error)
    unfolding rejected
    rejected_carries error p =
        let w = plain_event_of (starting m) (reject_event_of error) in
        let c : Carries Q m w = plain_carries (starting m) (reject_event_of error) (starting_carries p) in
        either_carries (eqb m.authorization.state D) (deliver_all_of 4 1 w) w (λ _. all_carries 4 1 w refl c) c

    pub invalidated_carries : (identifier : ℕ) → AllPairs Q m → Carries Q m (invalidated m identifier)
    unfolding invalidated
    invalidated_carries identifier p =
        let i = slot_asking_of m identifier in
        let w = plain_event_of (starting m) 7 in
        let answers = ltb 0 identifier && ltb i 4 in
        let c : Carries Q m w = plain_carries (starting m) 7 (starting_carries p) in
        either_carries (eqb (authorization_next_of 7 m.authorization.state) blank) (starting m) (pended_if answers w i) (λ _. starting_carries p)
        (either_carries answers (deliver w i 3) w (λ _. deliver_carries w i 3 refl c) c)

  -- the clock moves and the timers that are due fire
  pub clocked_carries : (m : Modem) (t : ℕ) → AllPairs Q m → Carries Q (with_clock_of m t) (clocked m t)
  unfolding clocked
  clocked_carries m t p =
      let n = with_clock_of m t in
      fired_carries n 4 (auth_fired_of (starting n)) (auth_fired_carries n (starting n) (starting_carries n p))

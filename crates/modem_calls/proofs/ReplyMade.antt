-- After an Authorization Reply the slots in use and the messages are those of the steps, all of them and in order: none is dropped.
use mathlib.Core.Path.{◌≡◌, refl, sym, ◌∙◌, ap, subst}
use mathlib.Core.Bool.{Bool, true, false, cond, ◌&&◌, ◌||◌, not, and-true}
use mathlib.Core.List.{List, [], ◌∷◌, ◌++◌, append-nil}
use Prim.Native.Nat.{ℕ, zero, suc, ◌+◌, ◌≤◌}
use native.Mathlib.Omega.{arith}
use lib.Dec.{eqb, ltb, leb}
use lib.ListN.{length, get_or, take, length-append}
use borrow.Author.Tests.{eq-eqb, ne_eqb, eqb-true, eqb-false}
use Rattle.questions.proofs.ListLaws.{Each, each_nil, of_four, IfLt, if_lt}
use Rattle.message_rules.specs.declared.fields.Fields.{Fields}
use Rattle.message_rules.specs.Fields.{no_params_of}
use Rattle.message_rules.specs.Messages.{is_none}
use Rattle.message_rules.proofs.HoldsLaws.{never}
use Rattle.modem_tek.specs.declared.parts.Request.{Request}
use Rattle.modem_tek.specs.declared.tek.Tek.{Tek}
use Rattle.modem_tek.specs.declared.tek.TekContext.{TekContext}
use Rattle.modem_tek.specs.declared.tek.TekStep.{TekStep}
use Rattle.modem_transitions.specs.Transitions.{B, C, D, blank, next_in, authorization_transitions}
use Rattle.modem_tek.specs.TekParts.{nothing}
use Rattle.modem_authorization.specs.declared.authorization.Authorization.{Authorization}
use Rattle.modem_authorization.specs.declared.authorization.AuthContext.{AuthContext}
use Rattle.modem_authorization.specs.declared.authorization.AuthStep.{AuthStep}
use Rattle.modem_authorization.specs.Authorization.{auth_counter, informs_value, requests_of, auth_moved, auth_stays, auth_step_of}
use Rattle.modem_steps.specs.declared.state.Modem.{Modem}
use Rattle.modem_steps.specs.declared.state.Progress.{Progress}
use Rattle.modem_steps.specs.State.{past_tek, with_message_of, starting}
use Rattle.modem_steps.specs.Slots.{first_slot, slot_of_said_of}
use Rattle.modem_reply.specs.Listed.{descriptor_at_of}
use Rattle.modem_reply.specs.Relist.{emptied, kept_to, started_if_of, started_one_of, started_to, fresh_tek_of, listed_anew_of, relisted}
use Rattle.modem_steps.specs.Machine.{auth_context_of, auth_stepped_of, deliver_auth_of}
use Rattle.modem_reply.specs.Replied.{replied}
use Rattle.modem_limits.specs.Limits.{saids_of_teks}
use Rattle.modem_limits.proofs.LimitsLaws.{Apart}
use Rattle.modem_calls.proofs.OutLaws.{tek_said}
use Rattle.modem_calls.proofs.NoneDropped.{messages_of}
use Rattle.modem_calls.proofs.DifferLaws.{Differ, none_append, missing_none}
use Rattle.modem_calls.proofs.ReplySteps.{going_to, is_new_of, new_to, counted, step_of, steps_of, counter_of, machines_of, sent_of, machines_append, steps_length, in_use_of, Filled, FilledBy, either_filled, kept_filled}
use Rattle.modem_calls.proofs.ReplyListed.{Replies, Listed, saids_append, going_listed, going_differ, new_missing, no_more, new_room}

-- ---- the search for a SAID's slot finds none where no slot in use has it
none_of_four : (a b c d : Bool) → leb 4 (cond a 0 (cond b 1 (cond c 2 (cond d 3 4)))) ≡ (not a && (not b && (not c && (not d && true))))
none_of_four true b c d = refl
none_of_four false true c d = refl
none_of_four false false true d = refl
none_of_four false false false true = refl
none_of_four false false false false = refl

eqb_swap : (a b : ℕ) → eqb a b ≡ eqb b a
eqb_swap a b = go (eqb b a) refl
  where
    go : (t : Bool) → eqb b a ≡ t → eqb a b ≡ t
    go true e = eq-eqb a b (sym (eqb-true b a e))
    go false e = ne_eqb a b (λ q. eqb-false b a e (sym q))

abbrev hit : ℕ → List Tek → ℕ → ℕ → Bool
hit n l said i = ltb i n && eqb (get_or l i past_tek).said said

none_in : (n : ℕ) (l : List Tek) (said : ℕ) → n ≤ 4 → length l ≡ 4
    → leb 4 (cond (hit n l said 0) 0 (cond (hit n l said 1) 1 (cond (hit n l said 2) 2 (cond (hit n l said 3) 3 4)))) ≡ is_none said (saids_of_teks (take n l))
unfolding is_none saids_of_teks
none_in n l said few four =
    of_four
    (λ (k : List Tek). leb 4 (cond (hit n k said 0) 0 (cond (hit n k said 1) 1 (cond (hit n k said 2) 2 (cond (hit n k said 3) 3 4)))) ≡ is_none said (saids_of_teks (take n k)))
    (λ a b c d. go a b c d n few) l four
  where
    go : (a b c d : Tek) (k : ℕ) → k ≤ 4
        → leb 4 (cond (ltb 0 k && eqb a.said said) 0 (cond (ltb 1 k && eqb b.said said) 1 (cond (ltb 2 k && eqb c.said said) 2 (cond (ltb 3 k && eqb d.said said) 3 4))))
        ≡ is_none said (saids_of_teks (take k (a ∷ b ∷ c ∷ d ∷ [])))
    go a b c d zero h = refl
    go a b c d (suc zero) h = rw (eqb_swap a.said said) (none_of_four (eqb said a.said) false false false)
    go a b c d (suc (suc zero)) h = rw (eqb_swap a.said said, eqb_swap b.said said) (none_of_four (eqb said a.said) (eqb said b.said) false false)
    go a b c d (suc (suc (suc zero))) h =
        rw (eqb_swap a.said said, eqb_swap b.said said, eqb_swap c.said said) (none_of_four (eqb said a.said) (eqb said b.said) (eqb said c.said) false)
    go a b c d (suc (suc (suc (suc zero)))) h =
        rw (eqb_swap a.said said, eqb_swap b.said said, eqb_swap c.said said, eqb_swap d.said said)
        (none_of_four (eqb said a.said) (eqb said b.said) (eqb said c.said) (eqb said d.said))
    go a b c d (suc (suc (suc (suc (suc k))))) h = absurd (omega arith)

none_slot : (m : Modem) (said : ℕ) → m.used ≤ 4 → length m.teks ≡ 4 → leb 4 (slot_of_said_of m said) ≡ is_none said (saids_of_teks (in_use_of m))
unfolding first_slot
none_slot m said few four = none_in m.used m.teks said few four

-- a step keeps the SAID
steps_saids : (event : ℕ) (x : TekContext) (l : List Tek) → saids_of_teks (machines_of (steps_of event x l)) ≡ saids_of_teks l
unfolding saids_of_teks
steps_saids event x [] = refl
steps_saids event x (t ∷ l) =
    ap (λ (n : ℕ). n ∷ saids_of_teks (machines_of (steps_of event (counted x (step_of event x t).counter) l))) (tek_said t event x no_params_of no_params_of)
    ∙ ap (λ (k : List ℕ). t.said ∷ k) (steps_saids event (counted x (step_of event x t).counter) l)

-- ---- those that start, behind those that go on
module _ (before : List Request) (x : TekContext) (f : Fields) (r : Replies f) (going : List Tek) (differ : Differ (saids_of_teks going)) (listed : Each (Listed f) going)
    (base : List TekStep) (c : ℕ) (saids : saids_of_teks (machines_of base) ≡ saids_of_teks going) (long : length base ≡ length going) where
  abbrev Started : ℕ → Progress → Type 0
  Started k w = FilledBy before x base 2 c (new_to k f going) w

  -- what the slots are asked is what those that go on are asked
  starts_new : (k : ℕ) (w : Progress) → length base + length (new_to k f going) ≤ 4 → Started k w
      → (ltb k f.count && leb 4 (slot_of_said_of w.modem (descriptor_at_of f k).said)) ≡ is_new_of f going k
  starts_new k w few h = go (ltb k f.count) (if_lt k f.count)
    where
      d : ℕ
      d = (descriptor_at_of f k).said

      go : (b : Bool) → IfLt k f.count b → (b && leb 4 (slot_of_said_of w.modem d)) ≡ (b && is_none d (saids_of_teks going))
      go true less =
          let steps = steps_of 2 (counted x c) (new_to k f going) in
          let used : w.modem.used ≤ 4 = omega (arith, h.used, length-append base steps, steps_length 2 (counted x c) (new_to k f going)) in
          let all : saids_of_teks (in_use_of w.modem) ≡ saids_of_teks going ++ saids_of_teks (new_to k f going) =
          ap saids_of_teks (h.slots ∙ machines_append base steps)
          ∙ saids_append (machines_of base) (machines_of steps)
          ∙ ap (λ (l : List ℕ). l ++ saids_of_teks (machines_of steps)) saids
          ∙ ap (λ (l : List ℕ). saids_of_teks going ++ l) (steps_saids 2 (counted x c) (new_to k f going)) in
          none_slot w.modem d used h.four
          ∙ ap (is_none d) all
          ∙ none_append d (saids_of_teks going) (saids_of_teks (new_to k f going))
          ∙ ap (λ (b : Bool). is_none d (saids_of_teks going) && b) (missing_none d (saids_of_teks (new_to k f going)) (new_missing f r going k less))
          ∙ and-true (is_none d (saids_of_teks going))
      go false over = refl

  started_next : (k : ℕ) (w : Progress) → Started k w → Started (suc k) (started_one_of f w k)
  unfolding started_one_of started_if_of
  started_next k w h =
      let d = descriptor_at_of f k in
      let most : length base + length (new_to k f going) ≤ 4 = omega (arith, long, r.high, no_more f r going differ listed k) in
      subst (λ (b : Bool). Started (suc k) (started_if_of b w d)) (sym (starts_new k w most h))
      (either_filled before x base 2 c (is_new_of f going k) (new_to k f going) (fresh_tek_of d) w
      (λ e. omega (arith, long, new_room f r going differ listed k e)) h)

  started_filled : (k : ℕ) (w : Progress) → Started 0 w → Started k (started_to k f w)
  unfolding started_to
  started_filled zero w h = h
  started_filled (suc k) w h = started_next k (started_to k f w) (started_filled k w h)

-- ---- the authorization machine's own step: nothing goes out, and the counter stays
reply_step : (a : Authorization) (x : AuthContext) → (eqb a.state B || eqb a.state D) ≡ true
    → ((auth_step_of a 4 x).informs ≡ nothing) × ((auth_step_of a 4 x).requests ≡ nothing) × ((auth_step_of a 4 x).counter ≡ x.counter) × ((auth_step_of a 4 x).machine.ak ≡ x.ak)
unfolding auth_step_of auth_moved informs_value requests_of auth_counter next_in authorization_transitions
reply_step a x e = go (eqb B a.state) (eqb D a.state) (rw (eqb_swap a.state B, eqb_swap a.state D) at e)
  where
    next : Bool → Bool → ℕ
    next b c = cond b C (cond c C blank)

    after : Bool → Bool → AuthStep
    after b c = cond (eqb (next b c) blank) (auth_stays a x) (auth_moved 4 (next b c) a x)

    go : (b c : Bool) → (b || c) ≡ true
        → ((after b c).informs ≡ nothing) × ((after b c).requests ≡ nothing) × ((after b c).counter ≡ x.counter) × ((after b c).machine.ak ≡ x.ak)
    go true c h = (refl, refl, refl, refl)
    go false true h = (refl, refl, refl, refl)
    go false false h = never h

-- What the TEK machines' steps after a Reply use: its authorization key, and the modem's counter
abbrev pub reply_context : Modem → Fields → TekContext
reply_context m f =
    record {
      clock = m.clock;
      operational = m.settings.waits.operational;
      rekey = m.settings.waits.rekey;
      grace = m.settings.tek.grace;
      ak = f.ak;
      counter = m.counter;
    }

abbrev pub Waiting : Modem → Type 0
Waiting m = (eqb m.authorization.state B || eqb m.authorization.state D) ≡ true

emptied_filled : (m : Modem) (f : Fields) → Waiting m
    → Filled [] (reply_context m f) [] m.counter (emptied (deliver_auth_of (starting m) 4 f.ak f.life))
unfolding emptied deliver_auth_of auth_stepped_of with_message_of
emptied_filled m f waits =
    let s = reply_step m.authorization (auth_context_of m f.ak f.life) waits in
    record {
      used = refl;
      four = refl;
      slots = refl;
      messages = rw (s.0, s.1) refl;
      count = rw (s.0, s.1) (omega arith);
      six = rw (s.0, s.1) refl;
      context = rw (s.2, s.3) refl;
    }

-- ---- the steps after a Reply: Complete (4) for those that go on, Authorized (2) for those that start
abbrev pub going_steps : Modem → Fields → List Tek → List TekStep
going_steps m f going = steps_of 4 (reply_context m f) going

abbrev pub new_steps : Modem → Fields → List Tek → List TekStep
new_steps m f going = steps_of 2 (counted (reply_context m f) (counter_of 4 (reply_context m f) going)) (new_to 4 f going)

pub record Made (m : Modem) (f : Fields) (going : List Tek) (w : Progress) : Type 0 where
  pub used : w.modem.used ≡ length going + length (new_to 4 f going)
  pub slots : in_use_of w.modem ≡ machines_of (going_steps m f going ++ new_steps m f going)
  pub messages : messages_of w.out ≡ sent_of (going_steps m f going ++ new_steps m f going)

module _ (m : Modem) (f : Fields) (r : Replies f) where
  started_made : (going : List Tek) → Differ (saids_of_teks going) → Each (Listed f) going → (w : Progress)
      → FilledBy [] (reply_context m f) [] 4 m.counter going w → Made m f going (started_to 4 f w)
  started_made going differ listed w h =
      let x = reply_context m f in
      let base = going_steps m f going in
      let c = counter_of 4 x going in
      let first : FilledBy [] x base 2 c [] w =
      subst (λ (k : List TekStep). Filled [] x k c w) (sym (append-nil base)) h in
      let all = started_filled [] x f r going differ listed base c (steps_saids 4 x going) (steps_length 4 x going) 4 w first in
      record {
        used =
            all.used ∙ length-append base (new_steps m f going) ∙ ap (λ (n : ℕ). n + length (new_steps m f going)) (steps_length 4 x going)
            ∙ ap (λ (n : ℕ). length going + n) (steps_length 2 (counted x c) (new_to 4 f going));
        slots = all.slots;
        messages = all.messages;
      }

  -- B-C: all are new. D-C: those that go on, then the new
  pub anew_made : Waiting m → Made m f [] (listed_anew_of f (deliver_auth_of (starting m) 4 f.ak f.life))
  unfolding listed_anew_of saids_of_teks
  anew_made waits =
      started_made [] tt (each_nil (Listed f)) (emptied (deliver_auth_of (starting m) 4 f.ak f.life)) (emptied_filled m f waits)

  pub relisted_made : Waiting m → Apart m.used m.teks → Made m f (going_to 4 f m) (relisted f (deliver_auth_of (starting m) 4 f.ak f.life))
  unfolding relisted deliver_auth_of auth_stepped_of
  relisted_made waits apart =
      let w = deliver_auth_of (starting m) 4 f.ak f.life in
      started_made (going_to 4 f m) (going_differ f m apart 4) (going_listed f m 4) (kept_to 4 f w.modem (emptied w))
      (kept_filled [] (reply_context m f) m.counter 4 f w.modem (emptied w) (omega arith) (emptied_filled m f waits))

-- Those that go on: in D those of the slots, in B none
abbrev pub going_of : Modem → Fields → List Tek
going_of m f = cond (eqb m.authorization.state D) (going_to 4 f m) []

pub replied_made : (m : Modem) (f : Fields) → Replies f → Waiting m → Apart m.used m.teks → Made m f (going_of m f) (replied m f)
unfolding replied
replied_made m f r waits apart = go (eqb m.authorization.state D)
  where
    w : Progress
    w = deliver_auth_of (starting m) 4 f.ak f.life

    go : (b : Bool) → Made m f (cond b (going_to 4 f m) []) (cond b (relisted f w) (listed_anew_of f w))
    go true = relisted_made m f r waits apart
    go false = anew_made m f r waits

-- Identifier 0 stands in no request (document 02, M-101): a request that waits has another, every event of either machine keeps that, and so each
-- request that goes out has another.
use mathlib.Core.Path.{◌≡◌, refl, sym, ◌∙◌, ap}
use mathlib.Core.Logic.{inr}
use mathlib.Core.Bool.{Bool, true, false, ◌&&◌, ◌||◌, cond, not}
use Prim.Native.Nat.{ℕ, zero, suc}
use lib.Dec.{eqb}
use lib.ListN.{get_or, set, replicate}
use borrow.Author.Tests.{eqb-true, eqb-false, ne_eqb}
use Rattle.questions.proofs.TestLaws.{both}
use Rattle.questions.proofs.ListLaws.{Each, each_nil}
use Rattle.key_traffic.specs.declared.numbers.AkNumber.{AkNumber}
use Rattle.message_rules.specs.declared.fields.Fields.{Fields}
use Rattle.message_rules.specs.declared.fields.Params.{Params}
use Rattle.message_rules.specs.Fields.{no_params_of}
use Rattle.message_rules.proofs.HoldsLaws.{never}
use Rattle.modem_transitions.specs.Transitions.{A, B, D, E, blank, next_in, authorization_transitions, tek_transitions, authorization_next_of, tek_next_of}
use Rattle.modem_transitions.specs.Identifier.{next_identifier_of}
use Rattle.modem_transitions.proofs.CaseLaws.{at_either}
use Rattle.modem_transitions.proofs.IdentifierLaws.{Solicited, next_solicited}
use Rattle.modem_tek.specs.declared.parts.Request.{Request}
use Rattle.modem_tek.specs.declared.tek.Tek.{Tek}
use Rattle.modem_tek.specs.declared.tek.TekContext.{TekContext}
use Rattle.modem_tek.specs.TekParts.{sends_into, nothing}
use Rattle.modem_tek.specs.Tek.{key_request_of, identifier_after_of, tek_sends_of, tek_moved, tek_stays, tek_step_of}
use Rattle.modem_authorization.specs.declared.authorization.Authorization.{Authorization}
use Rattle.modem_authorization.specs.declared.authorization.AuthContext.{AuthContext}
use Rattle.modem_authorization.specs.Authorization.{is_passive_of, requests_into, auth_identifier, informs_value, requests_of, auth_moved, auth_stays, auth_step_of}
use Rattle.modem_steps.specs.declared.state.Modem.{Modem}
use Rattle.modem_steps.specs.declared.state.Progress.{Progress}
use Rattle.modem_steps.specs.State.{with_message_of, with_clock_of, no_tek_of, past_tek, slot_at, starting}
use Rattle.modem_steps.specs.Machine.{auth_context_of, auth_stepped_of, deliver_auth_of, plain_event_of}
use Rattle.modem_steps.specs.Slots.{tek_context_of, stepped_at_of, deliver_reply_of, is_waiting_of}
use Rattle.modem_steps.specs.Clock.{clocked}
use Rattle.modem_reply.specs.Relist.{emptied, placed}
use Rattle.modem_receive.specs.Receive.{received}
use Rattle.modem_calls.specs.Messages.{is_request}
use Rattle.modem_calls.proofs.OutLaws.{information, auth_request}
use Rattle.modem_calls.proofs.NoneDropped.{messages_of}
use Rattle.modem_calls.proofs.KeptSteps.{set_cases}
use Rattle.modem_calls.proofs.SentUp.{with_message_each}
use Rattle.modem_calls.proofs.WorkKept.{Keeps, plain_keeps, clocked_keeps, received_keeps}

-- ---- a request and its Identifier
abbrev pub Numbered : Request → Type 0
Numbered r = is_request r.code ≡ true → Solicited r.identifier

-- of a machine whose request waits
abbrev pub auth_waiting : ℕ → Bool
auth_waiting state = eqb state B || eqb state D

abbrev pub AuthNumbered : Authorization → Type 0
AuthNumbered a = auth_waiting a.state ≡ true → Solicited a.identifier

abbrev pub TekNumbered : Tek → Type 0
TekNumbered t = is_waiting_of t ≡ true → Solicited t.identifier

-- ---- a TEK machine: a timeout resends from B and E alone, and every other request takes the next Identifier
tek_resends : (state : ℕ) → sends_into (tek_next_of 6 state) ≡ true → sends_into state ≡ true
unfolding next_in tek_transitions
tek_resends state e =
    at_either state B E (λ is_b. rw is_b) (λ is-e. rw is-e)
    (λ not-b not-e. never (rw (ne_eqb B state (λ q. eqb-false state B not-b (sym q)), ne_eqb E state (λ q. eqb-false state E not-e (sym q))) at e))

-- of a request that is new or kept
chosen : (sends resend : Bool) (counter kept : ℕ) → sends ≡ true → (resend ≡ true → Solicited kept) → Solicited (cond (sends && not resend) (next_identifier_of counter) kept)
chosen true true counter kept s h = h refl
chosen true false counter kept s h = next_solicited counter
chosen false resend counter kept s h = never s

sent_if : (b : Bool) (r : Request) → (b ≡ true → Solicited r.identifier) → Numbered (cond b r nothing)
sent_if true r h q = h refl
sent_if false r h q = never q

module _ (t : Tek) (event : ℕ) (x : TekContext) (older newer : Params) where
  pub tek_numbered : TekNumbered t → TekNumbered (tek_step_of t event x older newer).machine × Numbered (tek_step_of t event x older newer).sends
  unfolding tek_step_of tek_moved tek_sends_of identifier_after_of
  tek_numbered h = go (eqb to blank)
    where
      to : ℕ
      to = tek_next_of event t.state

      resent : sends_into to ≡ true → eqb event 6 ≡ true → Solicited t.identifier
      resent s six = h (tek_resends t.state (ap (λ (n : ℕ). sends_into (tek_next_of n t.state)) (sym (eqb-true event 6 six)) ∙ s))

      new : sends_into to ≡ true → Solicited (identifier_after_of event to t x)
      new s = chosen (sends_into to) (eqb event 6) x.counter t.identifier s (resent s)

      go : (b : Bool) → TekNumbered (cond b (tek_stays t x) (tek_moved event to t x older newer)).machine × Numbered (cond b (tek_stays t x) (tek_moved event to t x older newer)).sends
      go true = (h, λ q. never q)
      go false = (new, sent_if (sends_into to) (key_request_of (identifier_after_of event to t x) x.ak t.said) new)

-- ---- the authorization machine: a timeout resends from B and D alone, event 7 in D sends nothing
auth_resends : (state : ℕ) → auth_waiting (authorization_next_of 5 state) ≡ true → auth_waiting state ≡ true
unfolding next_in authorization_transitions
auth_resends state e =
    at_either state B D (λ is_b. rw is_b) (λ is-d. rw is-d)
    (λ not-b not-d. ends (eqb E state) (rw (ne_eqb B state (λ q. eqb-false state B not-b (sym q)), ne_eqb D state (λ q. eqb-false state D not-d (sym q))) at e))
  where
    ends : (b : Bool) → auth_waiting (cond b A blank) ≡ true → auth_waiting state ≡ true
    ends true q = never q
    ends false q = never q

auth_chosen : (waits passive resend : Bool) (counter kept : ℕ) → waits ≡ true → (passive ≡ true → Solicited kept) → (resend ≡ true → Solicited kept)
    → Solicited (cond ((waits && not passive) && not resend) (next_identifier_of counter) kept)
auth_chosen true true resend counter kept w p r = p refl
auth_chosen true false resend counter kept w p r = chosen true resend counter kept refl r
auth_chosen false passive resend counter kept w p r = never w

module _ (a : Authorization) (event : ℕ) (x : AuthContext) where
  pub auth_numbered : AuthNumbered a → AuthNumbered (auth_step_of a event x).machine × Numbered (auth_step_of a event x).informs × Numbered (auth_step_of a event x).requests
  unfolding auth_step_of auth_moved auth_identifier informs_value requests_of
  auth_numbered h = go (eqb to blank)
    where
      to : ℕ
      to = authorization_next_of event a.state

      passive : is_passive_of event a.state ≡ true → Solicited a.identifier
      passive p = h (ap auth_waiting (eqb-true a.state D (both (eqb event 7) (eqb a.state D) p).1))

      resent : auth_waiting to ≡ true → eqb event 5 ≡ true → Solicited a.identifier
      resent w five = h (auth_resends a.state (ap (λ (n : ℕ). auth_waiting (authorization_next_of n a.state)) (sym (eqb-true event 5 five)) ∙ w))

      new : auth_waiting to ≡ true → Solicited (auth_identifier event to a x)
      new w = auth_chosen (auth_waiting to) (is_passive_of event a.state) (eqb event 5) x.counter a.identifier w passive (resent w)

      informs : (b : Bool) → Numbered (cond b information nothing)
      informs true q = never q
      informs false q = never q

      requests : requests_into event a.state to ≡ true → Solicited (auth_identifier event to a x)
      requests r = new (both (auth_waiting to) (not (is_passive_of event a.state)) r).0

      go : (b : Bool) → AuthNumbered (cond b (auth_stays a x) (auth_moved event to a x)).machine × Numbered (cond b (auth_stays a x) (auth_moved event to a x)).informs
          × Numbered (cond b (auth_stays a x) (auth_moved event to a x)).requests
      go true = (h, λ q. never q, λ q. never q)
      go false = (new, informs (eqb to B), sent_if (requests_into event a.state to) (auth_request (auth_identifier event to a x) x.said) requests)

-- ---- the modem's work: what waits in it, and what has gone out
pub record Waits (m : Modem) : Type 0 where
  pub auth : AuthNumbered m.authorization
  pub teks : (i : ℕ) → TekNumbered (slot_at m i)

pub record Numbers (w : Progress) : Type 0 where
  pub waits : Waits w.modem
  pub sent : Each Numbered (messages_of w.out)

pub starting_numbers : (m : Modem) → Waits m → Numbers (starting m)
starting_numbers m h = record { waits = h; sent = each_nil Numbered }

auth_numbers : (w : Progress) (event : ℕ) (ak : AkNumber) (life : ℕ) → Numbers w → Numbers (deliver_auth_of w event ak life)
unfolding deliver_auth_of auth_stepped_of
auth_numbers w event ak life h =
    let s = auth_step_of w.modem.authorization event (auth_context_of w.modem ak life) in
    let new = auth_numbered w.modem.authorization event (auth_context_of w.modem ak life) h.waits.auth in
    record {
      waits = record { auth = new.0; teks = h.waits.teks };
      sent = with_message_each Numbered (with_message_of w.out s.informs) s.requests (inr new.2) (with_message_each Numbered w.out s.informs (inr new.1) h.sent);
    }

-- a machine put into slot i after its step
module _ (w : Progress) (i event : ℕ) (t : Tek) (older newer : Params) where
  abbrev stepped : Tek
  stepped = (tek_step_of t event (tek_context_of w.modem) older newer).machine

  put_numbered : TekNumbered t → Numbers w → (j : ℕ) → TekNumbered (get_or (set w.modem.teks i stepped) j past_tek)
  put_numbered old h j =
      set_cases (λ k u. TekNumbered u) w.modem.teks i stepped j (λ _. (tek_numbered t event (tek_context_of w.modem) older newer old).0) (h.waits.teks j)

  sends_numbered : TekNumbered t → Numbers w → Each Numbered (messages_of (with_message_of w.out (tek_step_of t event (tek_context_of w.modem) older newer).sends))
  sends_numbered old h =
      with_message_each Numbered w.out (tek_step_of t event (tek_context_of w.modem) older newer).sends (inr (tek_numbered t event (tek_context_of w.modem) older newer old).1) h.sent

tek_numbers : (w : Progress) (i event : ℕ) (older newer : Params) → Numbers w → Numbers (deliver_reply_of w i event older newer)
unfolding deliver_reply_of stepped_at_of
tek_numbers w i event older newer h =
    let t = slot_at w.modem i in
    record {
      waits = record { auth = h.waits.auth; teks = put_numbered w i event t older newer (h.waits.teks i) h };
      sent = sends_numbered w i event t older newer (h.waits.teks i) h;
    }

places_numbers : (w : Progress) (t : Tek) (event : ℕ) → TekNumbered t → Numbers w → Numbers (placed w (tek_step_of t event (tek_context_of w.modem) no_params_of no_params_of))
places_numbers w t event old h =
    record {
      waits = record { auth = h.waits.auth; teks = put_numbered w w.modem.used event t no_params_of no_params_of old h };
      sent = sends_numbered w w.modem.used event t no_params_of no_params_of old h;
    }

pub none_wait : (i : ℕ) → TekNumbered (get_or (replicate 4 no_tek_of) i past_tek)
none_wait zero q = never q
none_wait (suc zero) q = never q
none_wait (suc (suc zero)) q = never q
none_wait (suc (suc (suc zero))) q = never q
none_wait (suc (suc (suc (suc i)))) q = never q

empties_numbers : (w : Progress) → Numbers w → Numbers (emptied w)
unfolding emptied
empties_numbers w h = record { waits = record { auth = h.waits.auth; teks = none_wait }; sent = h.sent }

pub numbers_kept : Keeps Numbers TekNumbered
numbers_kept =
    record {
      machines = λ w h i. h.waits.teks i;
      fresh = λ d q. never q;
      auth = auth_numbers;
      tek = tek_numbers;
      empties = empties_numbers;
      places = places_numbers;
    }

-- ---- an event, the clock, a message that is taken
module _ (m : Modem) (h : Waits m) where
  pub plain_numbers : (event : ℕ) → Numbers (plain_event_of (starting m) event)
  plain_numbers event = plain_keeps Numbers TekNumbered numbers_kept (starting m) event (starting_numbers m h)

  pub deliver_numbers : (i event : ℕ) → Numbers (deliver_reply_of (starting m) i event no_params_of no_params_of)
  deliver_numbers i event = tek_numbers (starting m) i event no_params_of no_params_of (starting_numbers m h)

  pub clocked_numbers : (t : ℕ) → Numbers (clocked m t)
  clocked_numbers t = clocked_keeps Numbers TekNumbered numbers_kept m t (starting_numbers (with_clock_of m t) (record { auth = h.auth; teks = h.teks }))

  pub received_numbers : (f : Fields) → Numbers (received m f)
  received_numbers f = received_keeps Numbers TekNumbered numbers_kept m (starting_numbers m h) f

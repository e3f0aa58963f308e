-- Resends by timeout at both machines, and a Key Reply that no machine waits for, through the modem's call.
use mathlib.Core.Path.{◌≡◌, refl, sym, ap, ◌∙◌}
use mathlib.Core.Bool.{Bool, true, false, ◌&&◌, ◌||◌, not, cond}
use lib.Dec.{eqb, leb}
use lib.ListN.{length}
use native.Mathlib.Omega.{arith}
use mathlib.Core.Logic.{◌⊎◌, inl, inr}
use mathlib.Core.List.{List, ◌++◌}
use Prim.Native.Nat.{ℕ, ◌≤◌}
use borrow.Author.Tests.{le-leb, eqb-true, eq-eqb}
use Rattle.questions.specs.Answer.{Answer, Done, Refused}
use Rattle.questions.specs.declared.refusal.Refusal.TheVariants.{WrongIdentifier}
use Rattle.questions.specs.Questions.{first_no}
use Rattle.key_traffic.specs.declared.numbers.AkNumber.{AkNumber}
use Rattle.message_rules.specs.declared.fields.Params.{Params}
use Rattle.message_rules.specs.declared.fields.Receiver.TheVariants.{Modem as AtModem}
use Rattle.message_rules.specs.Messages.{question9, message_answer}
use Rattle.questions.proofs.AnswerLaws.{no_refused}
use Rattle.message_rules.proofs.MessageAnswers.{answer_done}
use Rattle.modem_authorization.specs.declared.authorization.Authorization.{Authorization}
use Rattle.modem_authorization.specs.declared.authorization.AuthContext.{AuthContext}
use Rattle.modem_authorization.specs.declared.authorization.AuthStep.{AuthStep}
use Rattle.modem_tek.specs.declared.parts.Request.{Request}
use Rattle.modem_tek.specs.declared.tek.Tek.{Tek}
use Rattle.modem_tek.specs.declared.tek.TekContext.{TekContext}
use Rattle.modem_tek.specs.declared.tek.TekStep.{TekStep}
use Rattle.modem_transitions.specs.Transitions.{B, D, E, blank, next_in, authorization_transitions, tek_transitions, authorization_next_of, tek_next_of}
use Rattle.modem_tek.specs.TekParts.{nothing, counter_after_of}
use Rattle.modem_tek.specs.Tek.{key_request_of, identifier_after_of, tek_sends_of, tek_moved, tek_stays, tek_step_of}
use Rattle.modem_authorization.specs.Authorization.{auth_identifier, auth_counter, requests_of, auth_moved, auth_stays, auth_step_of}
use Rattle.modem_steps.specs.declared.state.Modem.{Modem}
use Rattle.modem_steps.specs.declared.state.Progress.{Progress}
use Rattle.modem_steps.specs.State.{slot_at}
use Rattle.modem_steps.specs.Slots.{slot_of_said_of}
use Rattle.modem_receive.specs.Receive.{is_known_of, widths_fit_of, said_known_of, identifier_fits_of, fields_in, receive_questions, received}
use Rattle.message_rules.specs.Reading.{taken_of}
use Rattle.message_digest.specs.Digest.{message_key_fits_of, digest_holds_of}
use Rattle.modem_limits.specs.Limits.{modem_fits_of}
use Rattle.modem_calls.specs.Calls.{result_of, first_questions, receive_of}
use Rattle.modem_calls.proofs.OutLaws.{auth_request}
use Rattle.modem_calls.proofs.CallLaws.{Unchanged, receive_refused}

-- ---- TEK machine
module _ (t : Tek) (x : TekContext) (older newer : Params) where
  -- a timeout in B or E sends the waiting request once more, with its Identifier, and leaves the counter
  abbrev Resent : TekStep → Type 0
  Resent r = (r.sends ≡ key_request_of t.identifier x.ak t.said) × (r.machine.identifier ≡ t.identifier) × (r.counter ≡ x.counter)

  pub timeout_resends : (t.state ≡ B) ⊎ (t.state ≡ E) → Resent (tek_step_of t 6 x older newer)
  unfolding tek_step_of next_in tek_transitions tek_moved tek_sends_of identifier_after_of counter_after_of
  timeout_resends (inl s) = (simp s, simp s, simp s)
  timeout_resends (inr s) = (simp s, simp s, simp s)

-- ---- what a step sends, and what a timeout of the machine that waits then sends: the same, while the authorization key is
module _ (t : Tek) (event : ℕ) (x : TekContext) (older newer : Params) where
  abbrev Waits : TekStep → Type 0
  Waits r = (r.sends ≡ key_request_of r.machine.identifier x.ak r.machine.said) × ((r.machine.state ≡ B) ⊎ (r.machine.state ≡ E))

  moved_waits : (to : ℕ) → (tek_moved event to t x older newer).sends.code ≡ 7 → Waits (tek_moved event to t x older newer)
  unfolding tek_moved tek_sends_of
  moved_waits to = go (eqb to B) (eqb to E) refl refl
    where
      go : (p q : Bool) → eqb to B ≡ p → eqb to E ≡ q
          → (cond (p || q) (key_request_of (identifier_after_of event to t x) x.ak t.said) nothing).code ≡ 7
          → (cond (p || q) (key_request_of (identifier_after_of event to t x) x.ak t.said) nothing ≡ key_request_of (identifier_after_of event to t x) x.ak t.said)
          × ((to ≡ B) ⊎ (to ≡ E))
      go true q b e sent = (refl, inl (eqb-true to B b))
      go false true b e sent = (refl, inr (eqb-true to E e))
      go false false b e sent = absurd (omega (arith, sent))

  pub sent_waits : (tek_step_of t event x older newer).sends.code ≡ 7 → Waits (tek_step_of t event x older newer)
  unfolding tek_step_of
  sent_waits = go (eqb (tek_next_of event t.state) blank)
    where
      go : (b : Bool) → (cond b (tek_stays t x) (tek_moved event (tek_next_of event t.state) t x older newer)).sends.code ≡ 7
          → Waits (cond b (tek_stays t x) (tek_moved event (tek_next_of event t.state) t x older newer))
      go true sent = absurd (omega (arith, sent))
      go false sent = moved_waits (tek_next_of event t.state) sent

  pub resent_the_same : (y : TekContext) (first second : Params) → (tek_step_of t event x older newer).sends.code ≡ 7 → y.ak ≡ x.ak
      → (tek_step_of (tek_step_of t event x older newer).machine 6 y first second).sends ≡ (tek_step_of t event x older newer).sends
  resent_the_same y first second sent same =
      let w = sent_waits sent in
      let m = (tek_step_of t event x older newer).machine in
      (timeout_resends m y first second w.1).0 ∙ ap (λ (k : AkNumber). key_request_of m.identifier k m.said) same ∙ sym w.0

-- ---- authorization machine
module _ (a : Authorization) (x : AuthContext) where
  -- a timeout in B or D sends the waiting Request once more, with its Identifier and the same SAID, and leaves the counter
  abbrev RequestedAgain : AuthStep → Type 0
  RequestedAgain r = (r.requests ≡ auth_request a.identifier x.said) × (r.machine.identifier ≡ a.identifier) × (r.counter ≡ x.counter)

  pub timeout_requests : (a.state ≡ B) ⊎ (a.state ≡ D) → RequestedAgain (auth_step_of a 5 x)
  unfolding auth_step_of next_in authorization_transitions auth_moved requests_of auth_identifier auth_counter
  timeout_requests (inl s) = (simp s, simp s, simp s)
  timeout_requests (inr s) = (simp s, simp s, simp s)

-- the same of a Request: the modem's own SAID never changes
module _ (a : Authorization) (event : ℕ) (x : AuthContext) where
  abbrev AuthWaits : AuthStep → Type 0
  AuthWaits r = (r.requests ≡ auth_request r.machine.identifier x.said) × ((r.machine.state ≡ B) ⊎ (r.machine.state ≡ D))

  asked_waits : (to : ℕ) → (auth_moved event to a x).requests.code ≡ 4 → AuthWaits (auth_moved event to a x)
  unfolding auth_moved requests_of
  asked_waits to = go (eqb to B) (eqb to D) (not (eqb event 7 && eqb a.state D)) refl refl
    where
      sent : Request
      sent = record { code = 4; identifier = auth_identifier event to a x; ak = record { 0 = 0 }; said = x.said }

      go : (p q r : Bool) → eqb to B ≡ p → eqb to D ≡ q
          → (cond ((p || q) && r) sent nothing).code ≡ 4
          → (cond ((p || q) && r) sent nothing ≡ sent) × ((to ≡ B) ⊎ (to ≡ D))
      go true q true b d e = (refl, inl (eqb-true to B b))
      go true q false b d e = absurd (omega (arith, e))
      go false true true b d e = (refl, inr (eqb-true to D d))
      go false true false b d e = absurd (omega (arith, e))
      go false false r b d e = absurd (omega (arith, e))

  pub request_waits : (auth_step_of a event x).requests.code ≡ 4 → AuthWaits (auth_step_of a event x)
  unfolding auth_step_of
  request_waits = go (eqb (authorization_next_of event a.state) blank)
    where
      go : (b : Bool) → (cond b (auth_stays a x) (auth_moved event (authorization_next_of event a.state) a x)).requests.code ≡ 4
          → AuthWaits (cond b (auth_stays a x) (auth_moved event (authorization_next_of event a.state) a x))
      go true e = absurd (omega (arith, e))
      go false e = asked_waits (authorization_next_of event a.state) e

  pub requested_the_same : (y : AuthContext) → (auth_step_of a event x).requests.code ≡ 4 → y.said ≡ x.said
      → (auth_step_of (auth_step_of a event x).machine 5 y).requests ≡ (auth_step_of a event x).requests
  requested_the_same y e same =
      let w = request_waits e in
      let m = (auth_step_of a event x).machine in
      (timeout_requests m y w.1).0 ∙ ap (auth_request m.identifier) same ∙ sym w.0

-- ---- through the call: a Key Reply to a machine in D is refused and changes nothing
pub answer_of : (a : Answer) (m : Modem) (key : List ℕ) (w : Progress) → (result_of a m key w).called.answer ≡ a
answer_of Done m key w = refl
answer_of (Refused r) m key w = refl

module _ (m : Modem) (s read write : List ℕ) (lent : ℕ) (fits : modem_fits_of m ≡ true)
    (keys : (length read ≡ 20) × (length write ≡ 20)) (enough : 216 ≤ lent) (taken : message_answer AtModem s ≡ Done) (reply : (fields_in s).code ≡ 8) (wide : widths_fit_of m (fields_in s) ≡ true)
    (known : is_known_of m (fields_in s).said ≡ true) (operational : (slot_at m (slot_of_said_of m (fields_in s).said)).state ≡ D) where
  not_waiting : identifier_fits_of m (fields_in s) ≡ false
  unfolding identifier_fits_of
  not_waiting = simp (reply, operational)

  is_known : said_known_of m (fields_in s) ≡ true
  unfolding said_known_of
  is_known = simp (reply, known)

  pub operational_refuses : (receive_of m s read write lent).called.answer ≡ Refused WrongIdentifier
  unfolding receive_of receive_questions
  operational_refuses =
      let q = first_questions m (message_key_fits_of read && message_key_fits_of write) lent ++ receive_questions m s (digest_holds_of read (taken_of s).digest s) in
      let a = (answer_done AtModem s).0 taken in
      let two : (message_key_fits_of read && message_key_fits_of write && leb 216 lent) ≡ true =
      rw (eq-eqb (length read) 20 keys.0, eq-eqb (length write) 20 keys.1, le-leb 216 lent enough) refl in
      let nine : question9 s && widths_fit_of m (fields_in s) ≡ true = rw (a.3, wide) in
      answer_of (first_no q) m write (received m (fields_in s))
      ∙ no_refused 7 WrongIdentifier q (fits, (two, (a.0, (a.1, (a.2, (nine, (is_known, (not_waiting, refl))))))))

  pub operational_unchanged : Unchanged m (receive_of m s read write lent)
  operational_unchanged = receive_refused m lent WrongIdentifier s read write operational_refuses

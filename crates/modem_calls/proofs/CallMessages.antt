-- What each call of the modem writes are the messages of the steps that it takes, all of them and in order: none is ever dropped.
use mathlib.Core.Path.{◌≡◌, refl, sym, ◌∙◌, ap}
use mathlib.Core.Bool.{Bool, true, false, cond, ◌&&◌}
use mathlib.Core.List.{List, [], ◌++◌, append-nil}
use Prim.Native.Nat.{ℕ}
use native.Mathlib.Omega.{arith}
use lib.Dec.{eqb, ltb}
use borrow.Author.Tests.{eqb-true}
use Rattle.questions.specs.Answer.{Answer, Done}
use Rattle.questions.specs.Questions.{first_no}
use Rattle.questions.proofs.AnswerLaws.{done_met}
use Rattle.message_rules.specs.declared.fields.Fields.{Fields}
use Rattle.message_rules.specs.declared.fields.Params.{Params}
use Rattle.message_rules.specs.Fields.{no_params_of}
use Rattle.modem_tek.specs.declared.parts.Request.{Request}
use Rattle.modem_transitions.specs.Transitions.{D, blank, authorization_next_of}
use Rattle.modem_steps.specs.declared.state.Modem.{Modem}
use Rattle.modem_steps.specs.declared.state.Progress.{Progress}
use Rattle.modem_steps.specs.State.{with_clock_of, starting}
use Rattle.modem_steps.specs.Slots.{deliver, deliver_reply_of, deliver_all_of, slot_of_said_of, slot_asking_of}
use Rattle.modem_steps.specs.Machine.{plain_event_of}
use Rattle.modem_steps.specs.Clock.{auth_fired_of, clocked}
use Rattle.modem_reply.specs.Replied.{replied}
use Rattle.modem_receive.specs.Events.{reject_event_of, rejected, pended_if, invalidated}
use Rattle.modem_receive.specs.Receive.{fields_in, received}
use Rattle.modem_calls.specs.Messages.{requests_octets, out_octets, no_key_of}
use Rattle.modem_calls.specs.Calls.{result_of, first_questions, event_of, clock_answer_of, clock_of, receive_answer_of, receive_of}
use Rattle.modem_calls.proofs.SentLaws.{Sayable, sends_none, plain_sends}
use Rattle.modem_calls.proofs.SentFits.{fits_sayable}
use Rattle.modem_calls.proofs.CallLaws.{clock_asked, receive_asked}
use Rattle.modem_calls.proofs.NoneDropped.{messages_of, tek_sent, deliver_messages, auth_sent, auth_messages, all_sent, all_messages, auth_due_sent, slots_due_sent, clocked_messages}
use Rattle.modem_calls.proofs.KeyLaws.{event_any_key}
use Rattle.modem_calls.proofs.ReplySteps.{sent_of}
use Rattle.modem_calls.proofs.ReplyTaken.{reply_steps, done_result, reply_messages}

-- ---- established (1), reauth (8) and the other events of the authorization machine
abbrev pub plain_sent : Modem → ℕ → List Request
plain_sent m event = auth_sent m event (record { 0 = 0 }) 0

plain_messages : (m : Modem) (event : ℕ) → Sayable m → messages_of (plain_event_of (starting m) event).out ≡ plain_sent m event
plain_messages m event s = auth_messages (starting m) event (record { 0 = 0 }) 0 0 (omega arith) (sends_none m s)

-- ---- each message that a modem takes

-- a Reject: in D all machines are told Stop
abbrev pub reject_sent : Modem → ℕ → List Request
reject_sent m event = plain_sent m event ++ cond (eqb m.authorization.state D) (all_sent 4 1 (plain_event_of (starting m) event)) []

-- an Authorization Invalid: in C and D the machine that asked is told Pend
abbrev pub invalid_sent : Modem → ℕ → List Request
invalid_sent m identifier =
    cond (eqb (authorization_next_of 7 m.authorization.state) blank) []
    (plain_sent m 7
    ++ cond (ltb 0 identifier && ltb (slot_asking_of m identifier) 4) (tek_sent (plain_event_of (starting m) 7).modem (slot_asking_of m identifier) 3 no_params_of no_params_of) [])

abbrev pub received_sent : Modem → Fields → List Request
received_sent m f =
    cond (eqb f.code 5) (sent_of (reply_steps m f))
    (cond (eqb f.code 6) (reject_sent m (reject_event_of f.error))
    (cond (eqb f.code 8) (tek_sent m (slot_of_said_of m f.said) 8 f.older f.newer)
    (cond (eqb f.code 9) (tek_sent m (slot_of_said_of m f.said) 9 no_params_of no_params_of)
    (cond (eqb f.code 10) (invalid_sent m f.identifier)
    (tek_sent m (slot_of_said_of m f.said) 5 no_params_of no_params_of)))))

module _ (m : Modem) (s : Sayable m) where
  rejected_messages : (error : ℕ) → messages_of (rejected m error).out ≡ reject_sent m (reject_event_of error)
  unfolding rejected
  rejected_messages error = go (eqb m.authorization.state D)
    where
      event : ℕ
      event = reject_event_of error

      w : Progress
      w = plain_event_of (starting m) (reject_event_of error)

      go : (b : Bool) → messages_of (cond b (deliver_all_of 4 1 w) w).out ≡ plain_sent m event ++ cond b (all_sent 4 1 w) []
      go true =
          all_messages 4 1 w 2 (omega arith) (omega arith) (plain_sends m event s)
          ∙ ap (λ (l : List Request). l ++ all_sent 4 1 w) (plain_messages m event s)
      go false = plain_messages m event s ∙ sym (append-nil (plain_sent m event))

  invalidated_messages : (identifier : ℕ) → messages_of (invalidated m identifier).out ≡ invalid_sent m identifier
  unfolding invalidated
  invalidated_messages identifier =
      go (eqb (authorization_next_of 7 m.authorization.state) blank) (ltb 0 identifier && ltb (slot_asking_of m identifier) 4)
    where
      i : ℕ
      i = slot_asking_of m identifier

      w : Progress
      w = plain_event_of (starting m) 7

      go : (b c : Bool) → messages_of (cond b (starting m) (pended_if c w i)).out ≡ cond b [] (plain_sent m 7 ++ cond c (tek_sent w.modem i 3 no_params_of no_params_of) [])
      go true c = refl
      go false true =
          deliver_messages w i 3 no_params_of no_params_of 2 (omega arith) (plain_sends m 7 s)
          ∙ ap (λ (l : List Request). l ++ tek_sent w.modem i 3 no_params_of no_params_of) (plain_messages m 7 s)
      go false false = plain_messages m 7 s ∙ sym (append-nil (plain_sent m 7))

  pub received_messages : (f : Fields) → (f.code ≡ 5 → messages_of (replied m f).out ≡ sent_of (reply_steps m f)) → messages_of (received m f).out ≡ received_sent m f
  unfolding received
  received_messages f reply = go (eqb f.code 5) refl (eqb f.code 6) (eqb f.code 8) (eqb f.code 9) (eqb f.code 10)
    where
      i : ℕ
      i = slot_of_said_of m f.said

      one : (event : ℕ) (older newer : Params) → messages_of (deliver_reply_of (starting m) i event older newer).out ≡ tek_sent m i event older newer
      one event older newer = deliver_messages (starting m) i event older newer 0 (omega arith) (sends_none m s)

      go : (c₅ : Bool) → eqb f.code 5 ≡ c₅ → (c₆ c₈ c₉ c₁₀ : Bool)
          → messages_of (cond c₅ (replied m f) (cond c₆ (rejected m f.error) (cond c₈ (deliver_reply_of (starting m) i 8 f.older f.newer)
          (cond c₉ (deliver (starting m) i 9) (cond c₁₀ (invalidated m f.identifier) (deliver (starting m) i 5)))))).out
          ≡ cond c₅ (sent_of (reply_steps m f)) (cond c₆ (reject_sent m (reject_event_of f.error)) (cond c₈ (tek_sent m i 8 f.older f.newer)
          (cond c₉ (tek_sent m i 9 no_params_of no_params_of) (cond c₁₀ (invalid_sent m f.identifier) (tek_sent m i 5 no_params_of no_params_of)))))
      go true e c₆ c₈ c₉ c₁₀ = reply (eqb-true f.code 5 e)
      go false e true c₈ c₉ c₁₀ = rejected_messages f.error
      go false e false true c₉ c₁₀ = one 8 f.older f.newer
      go false e false false true c₁₀ = one 9 no_params_of no_params_of
      go false e false false false true = invalidated_messages f.identifier
      go false e false false false false = one 5 no_params_of no_params_of

-- ---- each call that is done
written_is : (a : Answer) (m : Modem) (key : List ℕ) (w : Progress) (l : List Request) → a ≡ Done → messages_of w.out ≡ l
    → (result_of a m key w).written ≡ requests_octets key l
unfolding out_octets
written_is a m key w l d e = ap (λ (b : Answer). (result_of b m key w).written) d ∙ ap (requests_octets key) e

module _ (m : Modem) (lent : ℕ) where
  -- established is event 1, reauth event 8; under every key
  pub event_written : (event : ℕ) (key : List ℕ) → (event_of event m lent).called.answer ≡ Done → (event_of event m lent).written ≡ requests_octets key (plain_sent m event)
  unfolding event_of out_octets
  event_written event key done =
      let a = first_no (first_questions m true lent) in
      let w = plain_event_of (starting m) event in
      let d : a ≡ Done = done_result a m no_key_of w done in
      let own = plain_messages m event (fits_sayable m (done_met (first_questions m true lent) d).0) in
      ap (λ (b : Answer). (result_of b m no_key_of w).written) d ∙ sym (event_any_key m event key) ∙ ap (requests_octets key) own

  pub clock_written : (t : ℕ) (write : List ℕ) → (clock_of m t write lent).called.answer ≡ Done
      → (clock_of m t write lent).written ≡ requests_octets write (auth_due_sent (with_clock_of m t) ++ slots_due_sent 4 (auth_fired_of (starting (with_clock_of m t))))
  unfolding clock_of
  clock_written t write done =
      let a = clock_answer_of m t write lent in
      let d : a ≡ Done = done_result a m write (clocked m t) done in
      written_is a m write (clocked m t) (auth_due_sent (with_clock_of m t) ++ slots_due_sent 4 (auth_fired_of (starting (with_clock_of m t)))) d
      (clocked_messages m t (fits_sayable m (clock_asked m t write lent d).0))

  pub receive_written : (s read write : List ℕ) → (receive_of m s read write lent).called.answer ≡ Done
      → (receive_of m s read write lent).written ≡ requests_octets write (received_sent m (fields_in s))
  unfolding receive_of
  receive_written s read write done =
      let a = receive_answer_of m s read write lent in
      let f = fields_in s in
      let d : a ≡ Done = done_result a m write (received m f) done in
      written_is a m write (received m f) (received_sent m f) d
      (received_messages m (fits_sayable m (receive_asked m s read write lent d).fits) f (λ five. reply_messages m s read write lent d five))

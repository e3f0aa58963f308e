-- No message is dropped: each step puts what its machine sends behind what has gone out before, in order.
use mathlib.Core.Path.{◌≡◌, sym, ◌∙◌, ap}
use mathlib.Core.Bool.{Bool, true, false, cond}
use mathlib.Core.List.{List, [], ◌∷◌, ◌++◌, append-nil, append_assoc}
use Prim.Native.Nat.{ℕ, zero, suc, ◌+◌, ◌≤◌, ◌<◌}
use native.Mathlib.Numerals.{add-one}
use native.Mathlib.Omega.{arith}
use lib.Dec.{leb, eqb}
use lib.ListN.{length, take, set}
use lib.Seq.{take-suc-set}
use borrow.Author.Tests.{lt-leb}
use Rattle.key_traffic.specs.declared.numbers.AkNumber.{AkNumber}
use Rattle.message_rules.specs.declared.fields.Params.{Params}
use Rattle.message_rules.specs.Fields.{no_params_of}
use Rattle.modem_tek.specs.declared.parts.Request.{Request}
use Rattle.modem_transitions.specs.Timers.{is_due_of}
use Rattle.modem_tek.specs.Tek.{tek_step_of}
use Rattle.modem_authorization.specs.Authorization.{auth_step_of}
use Rattle.modem_steps.specs.declared.state.Modem.{Modem}
use Rattle.modem_steps.specs.declared.state.Out.{Out}
use Rattle.modem_steps.specs.declared.state.Progress.{Progress}
use Rattle.modem_steps.specs.State.{with_clock_of, slot_at, with_message_of, starting}
use Rattle.modem_steps.specs.Slots.{tek_context_of, stepped_at_of, deliver_reply_of, deliver, deliver_all_of}
use Rattle.modem_steps.specs.Machine.{auth_context_of, auth_stepped_of, deliver_auth_of, plain_event_of}
use Rattle.modem_steps.specs.Clock.{auth_timer_event_of, tek_timer_event_of, auth_fired_of, slot_fired_of, slots_fired_of, clocked}
use Rattle.modem_calls.proofs.OutLaws.{auth_informs, with_message_fits}
use Rattle.modem_calls.proofs.SentLaws.{Sayable, Sends, sends_wider, sends_either, sends_none, deliver_sends, plain_sends, all_sends}

-- The messages that have gone out, and those of one sending: none or one
abbrev pub messages_of : Out → List Request
messages_of o = take o.count o.sent

abbrev pub sent_by : Request → List Request
sent_by r = cond (eqb r.code 0) [] (r ∷ [])

pub with_message_messages : (o : Out) (r : Request) → o.count < 6 → length o.sent ≡ 6 → messages_of (with_message_of o r) ≡ messages_of o ++ sent_by r
unfolding with_message_of
with_message_messages o r room six = go (eqb r.code 0)
  where
    more : Out
    more = record { count = o.count + 1; sent = set o.sent o.count r }

    go : (b : Bool) → messages_of (cond b o (cond (leb 6 o.count) o more)) ≡ messages_of o ++ cond b [] (r ∷ [])
    go true = sym (append-nil (messages_of o))
    go false =
        let inside : o.count < length o.sent = omega arith in
        simp (lt-leb 6 o.count room, add-one) (take-suc-set o.sent o.count r inside)

-- ---- a TEK machine that takes an event, with room for its message
abbrev pub tek_sent : Modem → ℕ → ℕ → Params → Params → List Request
tek_sent m i event older newer = sent_by (tek_step_of (slot_at m i) event (tek_context_of m) older newer).sends

pub deliver_messages : (w : Progress) (i event : ℕ) (older newer : Params) (n : ℕ) → n < 6 → Sends w n
    → messages_of (deliver_reply_of w i event older newer).out ≡ messages_of w.out ++ tek_sent w.modem i event older newer
unfolding deliver_reply_of stepped_at_of
deliver_messages w i event older newer n room f =
    with_message_messages w.out (tek_step_of (slot_at w.modem i) event (tek_context_of w.modem) older newer).sends (omega (arith, f.out.count)) f.out.six

-- ---- the authorization machine takes an event: Authentication Information goes before the Request
abbrev pub auth_sent : Modem → ℕ → AkNumber → ℕ → List Request
auth_sent m event ak life =
    sent_by (auth_step_of m.authorization event (auth_context_of m ak life)).informs ++ sent_by (auth_step_of m.authorization event (auth_context_of m ak life)).requests

pub auth_messages : (w : Progress) (event : ℕ) (ak : AkNumber) (life n : ℕ) → n < 5 → Sends w n
    → messages_of (deliver_auth_of w event ak life).out ≡ messages_of w.out ++ auth_sent w.modem event ak life
unfolding deliver_auth_of auth_stepped_of
auth_messages w event ak life n room f =
    let a = w.modem.authorization in
    let x = auth_context_of w.modem ak life in
    let s = auth_step_of a event x in
    let one = with_message_fits w.out s.informs n (omega arith) f.out (auth_informs a event x) in
    with_message_messages (with_message_of w.out s.informs) s.requests (omega (arith, one.count)) one.six
    ∙ ap (λ (l : List Request). l ++ sent_by s.requests) (with_message_messages w.out s.informs (omega (arith, f.out.count)) f.out.six)
    ∙ append_assoc (messages_of w.out) (sent_by s.informs) (sent_by s.requests)

-- ---- all slots take an event, in slot order
abbrev pub all_sent : ℕ → ℕ → Progress → List Request
all_sent zero event w = []
all_sent (suc k) event w = all_sent k event w ++ tek_sent (deliver_all_of k event w).modem k event no_params_of no_params_of

pub all_messages : (k event : ℕ) (w : Progress) (n : ℕ) → k ≤ 4 → n + k ≤ 6 → Sends w n → messages_of (deliver_all_of k event w).out ≡ messages_of w.out ++ all_sent k event w
unfolding deliver_all_of
all_messages zero event w n few room f = sym (append-nil (messages_of w.out))
all_messages (suc k) event w n few room f =
    let v = deliver_all_of k event w in
    deliver_messages v k event no_params_of no_params_of (n + k) (omega arith) (all_sends k event w n (omega arith) (omega arith) f)
    ∙ ap (λ (l : List Request). l ++ tek_sent v.modem k event no_params_of no_params_of) (all_messages k event w n (omega arith) (omega arith) f)
    ∙ append_assoc (messages_of w.out) (all_sent k event w) (tek_sent v.modem k event no_params_of no_params_of)

-- ---- the clock: what the machines whose timers are due send, the authorization machine first, then the slots in order
either_messages : (b : Bool) (v w : Progress) (l : List Request) → messages_of v.out ≡ messages_of w.out ++ l → messages_of (cond b v w).out ≡ messages_of w.out ++ cond b l []
either_messages true v w l e = e
either_messages false v w l e = sym (append-nil (messages_of w.out))

abbrev pub auth_due_sent : Modem → List Request
auth_due_sent m = cond (is_due_of m.authorization.timer m.clock) (auth_sent m (auth_timer_event_of m.authorization.state) (record { 0 = 0 }) 0) []

abbrev pub slot_due_sent : Modem → ℕ → List Request
slot_due_sent m i = cond (is_due_of (slot_at m i).timer m.clock) (tek_sent m i (tek_timer_event_of (slot_at m i).state) no_params_of no_params_of) []

abbrev pub slots_due_sent : ℕ → Progress → List Request
slots_due_sent zero w = []
slots_due_sent (suc k) w = slots_due_sent k w ++ slot_due_sent (slots_fired_of k w).modem k

slot-fired : (w : Progress) (i n : ℕ) → i < 4 → n < 6 → Sends w n → Sends (slot_fired_of w i) (n + 1) × (messages_of (slot_fired_of w i).out ≡ messages_of w.out ++ slot_due_sent w.modem i)
unfolding slot_fired_of
slot-fired w i n in_four room f =
    let due = is_due_of (slot_at w.modem i).timer w.modem.clock in
    let event = tek_timer_event_of (slot_at w.modem i).state in (
      sends_either due (deliver w i event) w (n + 1) (deliver_sends w i event no_params_of no_params_of n in_four room f) (sends_wider w n (n + 1) (omega arith) f),
      either_messages due (deliver w i event) w (tek_sent w.modem i event no_params_of no_params_of) (deliver_messages w i event no_params_of no_params_of n room f),
    )

slots_fired : (k : ℕ) (w : Progress) (n : ℕ) → k ≤ 4 → n + k ≤ 6 → Sends w n
    → Sends (slots_fired_of k w) (n + k) × (messages_of (slots_fired_of k w).out ≡ messages_of w.out ++ slots_due_sent k w)
unfolding slots_fired_of
slots_fired zero w n few room f = (sends_wider w n (n + 0) (omega arith) f, sym (append-nil (messages_of w.out)))
slots_fired (suc k) w n few room f =
    let v = slots_fired_of k w in
    let before = slots_fired k w n (omega arith) (omega arith) f in
    let here = slot-fired v k (n + k) (omega arith) (omega arith) before.0 in (
      sends_wider (slot_fired_of v k) (n + k + 1) (n + suc k) (omega arith) here.0,
      here.1
          ∙ ap (λ (l : List Request). l ++ slot_due_sent v.modem k) before.1
          ∙ append_assoc (messages_of w.out) (slots_due_sent k w) (slot_due_sent v.modem k),
    )

pub clocked_messages : (m : Modem) (t : ℕ) → Sayable m
    → messages_of (clocked m t).out ≡ auth_due_sent (with_clock_of m t) ++ slots_due_sent 4 (auth_fired_of (starting (with_clock_of m t)))
unfolding clocked auth_fired_of
clocked_messages m t s =
    let c = with_clock_of m t in
    let w = starting c in
    let now : Sayable c = record { own = s.own; slots = s.slots; ak = s.ak } in
    let event = auth_timer_event_of m.authorization.state in
    let due = is_due_of m.authorization.timer t in
    let auth : Sends (auth_fired_of w) 2 = sends_either due (plain_event_of w event) w 2 (plain_sends c event now) (sends_wider w 0 2 (omega arith) (sends_none c now)) in
    let first = either_messages due (plain_event_of w event) w (auth_sent c event (record { 0 = 0 }) 0) (auth_messages w event (record { 0 = 0 }) 0 0 (omega arith) (sends_none c now)) in
    (slots_fired 4 (auth_fired_of w) 2 (omega arith) (omega arith) auth).1 ∙ ap (λ (l : List Request). l ++ slots_due_sent 4 (auth_fired_of w)) first

-- Every message that a call of the modem sends is one that the head-end receives: 4, 7 or 12.
use mathlib.Core.Path.{◌≡◌, refl, subst}
use mathlib.Core.Logic.{◌⊎◌, inl, inr}
use mathlib.Core.Bool.{Bool, true, false, cond}
use Prim.Native.Nat.{ℕ, ◌+◌, ◌≤◌}
use native.Mathlib.Numerals.{add-one}
use native.Mathlib.Omega.{arith}
use lib.Dec.{eqb, ltb, leb}
use lib.ListN.{length, set, take}
use lib.Seq.{take-suc-set, take_all, set_out}
use borrow.Author.Tests.{eq-eqb}
use Rattle.key_traffic.specs.declared.numbers.AkNumber.{AkNumber}
use Rattle.questions.proofs.ListLaws.{Each, each_nil, each_snoc, IfLt, if_lt}
use Rattle.message_rules.specs.declared.fields.Fields.{Fields}
use Rattle.message_rules.specs.declared.fields.Params.{Params}
use Rattle.message_rules.specs.Fields.{no_params_of}
use Rattle.message_rules.specs.Messages.{receiver_of}
use Rattle.modem_tek.specs.declared.parts.Request.{Request}
use Rattle.modem_tek.specs.declared.tek.Tek.{Tek}
use Rattle.modem_tek.specs.declared.tek.TekContext.{TekContext}
use Rattle.modem_transitions.specs.Transitions.{B, blank, tek_next_of, authorization_next_of}
use Rattle.modem_tek.specs.TekParts.{nothing, sends_into}
use Rattle.modem_tek.specs.Tek.{key_request_of, identifier_after_of, tek_sends_of, tek_moved, tek_stays, tek_step_of}
use Rattle.modem_authorization.specs.declared.authorization.Authorization.{Authorization}
use Rattle.modem_authorization.specs.declared.authorization.AuthContext.{AuthContext}
use Rattle.modem_authorization.specs.Authorization.{requests_into, auth_identifier, informs_value, requests_of, auth_moved, auth_stays, auth_step_of}
use Rattle.modem_steps.specs.declared.state.Modem.{Modem}
use Rattle.modem_steps.specs.declared.state.Out.{Out}
use Rattle.modem_steps.specs.declared.state.Progress.{Progress}
use Rattle.modem_steps.specs.State.{with_clock_of, slot_at, with_message_of, starting}
use Rattle.modem_steps.specs.Slots.{tek_context_of, stepped_at_of, deliver_reply_of}
use Rattle.modem_reply.specs.Relist.{emptied}
use Rattle.modem_steps.specs.Machine.{auth_context_of, auth_stepped_of, deliver_auth_of, plain_event_of}
use Rattle.modem_steps.specs.Clock.{clocked}
use Rattle.modem_receive.specs.Receive.{received}
use Rattle.modem_calls.proofs.OutLaws.{information, auth_request}
use Rattle.modem_calls.proofs.NoneDropped.{messages_of}
use Rattle.modem_calls.proofs.SentRead.{Upward}
use Rattle.modem_calls.proofs.WorkKept.{Keeps, plain_keeps, clocked_keeps, received_keeps}

abbrev MaybeUp : Request → Type 0
MaybeUp r = (r.code ≡ 0) ⊎ Upward r

-- ---- what a step sends: nothing, or such a message
either_up : (b : Bool) (r : Request) → Upward r → MaybeUp (cond b r nothing)
either_up true r up = inr up
either_up false r up = inl refl

tek_up : (t : Tek) (event : ℕ) (x : TekContext) (older newer : Params) → MaybeUp (tek_step_of t event x older newer).sends
unfolding tek_step_of tek_moved tek_sends_of receiver_of
tek_up t event x older newer = go (eqb to blank)
  where
    to : ℕ
    to = tek_next_of event t.state

    go : (b : Bool) → MaybeUp (cond b (tek_stays t x) (tek_moved event to t x older newer)).sends
    go true = inl refl
    go false = either_up (sends_into to) (key_request_of (identifier_after_of event to t x) x.ak t.said) refl

auth_up : (a : Authorization) (event : ℕ) (x : AuthContext) → MaybeUp (auth_step_of a event x).informs × MaybeUp (auth_step_of a event x).requests
unfolding auth_step_of auth_moved informs_value requests_of receiver_of
auth_up a event x = go (eqb to blank)
  where
    to : ℕ
    to = authorization_next_of event a.state

    go : (b : Bool) → MaybeUp (cond b (auth_stays a x) (auth_moved event to a x)).informs × MaybeUp (cond b (auth_stays a x) (auth_moved event to a x)).requests
    go true = (inl refl, inl refl)
    go false = (either_up (eqb to B) information refl, either_up (requests_into event a.state to) (auth_request (auth_identifier event to a x) x.said) refl)

-- ---- the messages that have gone out
abbrev AllUp : Out → Type 0
AllUp o = Each Upward (messages_of o)

abbrev pub Up : Progress → Type 0
Up w = AllUp w.out

-- one more of which P holds, as it does of each before it
pub with_message_each : (P : Request → Type 0) (o : Out) (r : Request) → (r.code ≡ 0) ⊎ P r → Each P (messages_of o) → Each P (messages_of (with_message_of o r))
unfolding with_message_of
with_message_each P o r (inl e) h = simp (eq-eqb r.code 0 e) h
with_message_each P o r (inr p) h = go (eqb r.code 0) (leb 6 o.count) (ltb o.count (length o.sent)) (if_lt o.count (length o.sent))
  where
    n : ℕ
    n = o.count

    more : Out
    more = record { count = o.count + 1; sent = set o.sent o.count r }

    go : (b c d : Bool) → IfLt n (length o.sent) d → Each P (messages_of (cond b o (cond c o more)))
    go true c d i = h
    go false true d i = h
    go false false true inside = rw (add-one, take-suc-set o.sent n r inside) (each_snoc P (take n o.sent) r h p)
    go false false false over =
        let wider : length o.sent ≤ n + 1 = omega arith in
        rw (set_out o.sent n r over, take_all (n + 1) o.sent wider) (subst (Each P) (take_all n o.sent over) h)

with_message_up : (o : Out) (r : Request) → MaybeUp r → AllUp o → AllUp (with_message_of o r)
with_message_up = with_message_each Upward

pub starting_up : (m : Modem) → Up (starting m)
starting_up m = each_nil Upward

pub deliver_up : (w : Progress) (i event : ℕ) (older newer : Params) → Up w → Up (deliver_reply_of w i event older newer)
unfolding deliver_reply_of stepped_at_of
deliver_up w i event older newer h =
    let t = slot_at w.modem i in
    let x = tek_context_of w.modem in
    with_message_up w.out (tek_step_of t event x older newer).sends (tek_up t event x older newer) h

deliver_auth_up : (w : Progress) (event : ℕ) (ak : AkNumber) (life : ℕ) → Up w → Up (deliver_auth_of w event ak life)
unfolding deliver_auth_of auth_stepped_of
deliver_auth_up w event ak life h =
    let a = w.modem.authorization in
    let x = auth_context_of w.modem ak life in
    let u = auth_up a event x in
    with_message_up (with_message_of w.out (auth_step_of a event x).informs) (auth_step_of a event x).requests u.1 (with_message_up w.out (auth_step_of a event x).informs u.0 h)

-- ---- the modem's work
abbrev Any : Tek → Type 0
Any t = Unit {0}

keeps_up : Keeps Up Any
unfolding emptied
keeps_up =
    record {
      machines = λ w h i. tt;
      fresh = λ d. tt;
      auth = deliver_auth_up;
      tek = deliver_up;
      empties = λ w h. h;
      places = λ w t event q h. with_message_up w.out (tek_step_of t event (tek_context_of w.modem) no_params_of no_params_of).sends (tek_up t event (tek_context_of w.modem) no_params_of no_params_of) h;
    }

pub plain_up : (m : Modem) (event : ℕ) → Up (plain_event_of (starting m) event)
plain_up m event = plain_keeps Up Any keeps_up (starting m) event (starting_up m)

pub clocked_up : (m : Modem) (t : ℕ) → Up (clocked m t)
clocked_up m t = clocked_keeps Up Any keeps_up m t (starting_up (with_clock_of m t))

pub received_up : (m : Modem) (f : Fields) → Up (received m f)
received_up m f = received_keeps Up Any keeps_up m (starting_up m) f

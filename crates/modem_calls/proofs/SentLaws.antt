-- The messages of each step can be written, and at most six go out in one call, so none is dropped.
use mathlib.Core.Path.{◌≡◌, refl}
use mathlib.Core.Bool.{Bool, true, false, ◌&&◌, cond, not}
use mathlib.Core.List.{List}
use Prim.Native.Nat.{ℕ, zero, suc, ◌+◌, ◌≤◌, ◌<◌}
use native.Mathlib.Omega.{arith}
use lib.Dec.{ltb, leb, eqb}
use lib.ListN.{length, get_or, set, get_or-replicate, get_or-eq_default}
use lib.Seq.{get_or-set_same, get_or-set_other, set_out}
use borrow.Author.Tests.{leb-false, ltb-true, eqb-true, eqb-false}
use Rattle.key_traffic.specs.declared.numbers.AkNumber.{AkNumber}
use Rattle.questions.proofs.TestLaws.{both}
use Rattle.questions.proofs.ListLaws.{IfLt, if_lt}
use Rattle.message_rules.specs.declared.fields.Fields.{Fields}
use Rattle.message_rules.specs.declared.fields.Params.{Params}
use Rattle.message_rules.specs.Fields.{no_params_of}
use Rattle.modem_tek.specs.declared.tek.Tek.{Tek}
use Rattle.modem_tek.specs.declared.tek.TekContext.{TekContext}
use Rattle.modem_tek.specs.declared.tek.TekStep.{TekStep}
use Rattle.modem_transitions.specs.Transitions.{A, D, blank, authorization_next_of}
use Rattle.modem_transitions.specs.Timers.{is_due_of}
use Rattle.modem_tek.specs.Tek.{tek_step_of}
use Rattle.modem_authorization.specs.Authorization.{auth_step_of}
use Rattle.modem_steps.specs.declared.state.Modem.{Modem}
use Rattle.modem_steps.specs.declared.state.Progress.{Progress}
use Rattle.modem_steps.specs.State.{with_clock_of, past_tek, no_tek_of, slot_at, with_message_of, starting}
use Rattle.modem_steps.specs.Slots.{tek_context_of, stepped_at_of, deliver_reply_of, deliver, deliver_all_of, slot_of_said_of, slot_asking_of}
use Rattle.modem_reply.specs.Listed.{descriptor_at_of, lists}
use Rattle.modem_reply.specs.Relist.{emptied, placed, appended, kept_if_of, kept_one_of, kept_to, fresh_tek_of, started_if_of, started_one_of, started_to, listed_anew_of, relisted}
use Rattle.modem_steps.specs.Machine.{auth_context_of, auth_stepped_of, deliver_auth_of, plain_event_of}
use Rattle.modem_reply.specs.Replied.{replied}
use Rattle.modem_receive.specs.Events.{reject_event_of, rejected, pended_if, invalidated}
use Rattle.modem_steps.specs.Clock.{auth_timer_event_of, tek_timer_event_of, auth_fired_of, slot_fired_of, slots_fired_of, clocked}
use Rattle.modem_receive.specs.Receive.{received}
use Rattle.modem_calls.specs.Messages.{OutFits}
use Rattle.modem_receive.proofs.ReceiveLaws.{by_received}
use Rattle.modem_calls.proofs.OutLaws.{tek_sends, tek_said, auth_informs, auth_requests, auth_ak, out_none, out_wider, with_message_fits}

-- ---- what messages carry is in range
pub record Sayable (m : Modem) : Type 0 where
  pub own : m.said ≤ 16383
  pub slots : (i : ℕ) → i < 4 → (slot_at m i).said ≤ 16383
  pub ak : m.authorization.ak.0 ≤ 15

-- and at most n messages have gone out
pub record Sends (w : Progress) (n : ℕ) : Type 0 where
  pub modem : Sayable w.modem
  pub out : OutFits w.out n

pub sends_wider : (w : Progress) (n k : ℕ) → n ≤ k → Sends w n → Sends w k
sends_wider w n k h s = record { modem = s.modem; out = out_wider w.out n k h s.out }

pub sends_either : (b : Bool) (v w : Progress) (n : ℕ) → Sends v n → Sends w n → Sends (cond b v w) n
sends_either true v w n p q = p
sends_either false v w n p q = q

pub sends_none : (m : Modem) → Sayable m → Sends (starting m) 0
sends_none m s = record { modem = s; out = out_none }

-- ---- one machine
set_small : (l : List Tek) (i j : ℕ) (t : Tek) → t.said ≤ 16383 → (get_or l j past_tek).said ≤ 16383 → (get_or (set l i t) j past_tek).said ≤ 16383
set_small l i j t small old = go (eqb j i) refl
  where
    here : (b : Bool) → ltb i (length l) ≡ b → IfLt i (length l) b → (get_or (set l i t) i past_tek).said ≤ 16383
    here true e inside = rw (get_or-set_same l i t past_tek inside) small
    here false e over = rw (set_out l i t over, get_or-eq_default l past_tek over) (omega arith)

    go : (b : Bool) → eqb j i ≡ b → (get_or (set l i t) j past_tek).said ≤ 16383
    go true e = rw (eqb-true j i e) (here (ltb i (length l)) refl (if_lt i (length l)))
    go false e = rw (get_or-set_other l i j t past_tek (eqb-false j i e)) old

pub deliver_sends : (w : Progress) (i event : ℕ) (older newer : Params) (n : ℕ) → i < 4 → n < 6 → Sends w n → Sends (deliver_reply_of w i event older newer) (n + 1)
unfolding deliver_reply_of stepped_at_of
deliver_sends w i event older newer n in_four room s =
    let t = slot_at w.modem i in
    let x = tek_context_of w.modem in
    let small : t.said ≤ 16383 = s.modem.slots i in_four in
    let after : (tek_step_of t event x older newer).machine.said ≤ 16383 = rw (tek_said t event x older newer) small in
    record {
      modem =
          record {
            own = s.modem.own;
            slots = λ j h. set_small w.modem.teks i j (tek_step_of t event x older newer).machine after (s.modem.slots j h);
            ak = s.modem.ak;
          };
      out = with_message_fits w.out (tek_step_of t event x older newer).sends n room s.out (tek_sends t event x older newer small s.modem.ak);
    }

pub auth_sends : (w : Progress) (event : ℕ) (ak : AkNumber) (life n : ℕ) → ak.0 ≤ 15 → n < 5 → Sends w n → Sends (deliver_auth_of w event ak life) (n + 2)
unfolding deliver_auth_of auth_stepped_of
auth_sends w event ak life n low room s =
    let a = w.modem.authorization in
    let x = auth_context_of w.modem ak life in
    let one = with_message_fits w.out (auth_step_of a event x).informs n (omega arith) s.out (auth_informs a event x) in
    let two =
    with_message_fits (with_message_of w.out (auth_step_of a event x).informs) (auth_step_of a event x).requests (n + 1) (omega arith) one
    (auth_requests a event x s.modem.own) in
    record {
      modem = record { own = s.modem.own; slots = s.modem.slots; ak = auth_ak a event x s.modem.ak low };
      out = out_wider (with_message_of (with_message_of w.out (auth_step_of a event x).informs) (auth_step_of a event x).requests) (n + 1 + 1) (n + 2) (omega arith) two;
    }

-- at most two messages
pub plain_sends : (m : Modem) (event : ℕ) → Sayable m → Sends (plain_event_of (starting m) event) 2
plain_sends m event s = auth_sends (starting m) event (record { 0 = 0 }) 0 0 (omega arith) (omega arith) (sends_none m s)

pub all_sends : (k event : ℕ) (w : Progress) (n : ℕ) → k ≤ 4 → n + k ≤ 6 → Sends w n → Sends (deliver_all_of k event w) (n + k)
unfolding deliver_all_of
all_sends zero event w n in_four room s = sends_wider w n (n + 0) (omega arith) s
all_sends (suc k) event w n in_four room s =
    sends_wider (deliver (deliver_all_of k event w) k event) (n + k + 1) (n + suc k) (omega arith)
    (deliver_sends (deliver_all_of k event w) k event no_params_of no_params_of (n + k) (omega arith) (omega arith)
    (all_sends k event w n (omega arith) (omega arith) s))

-- ---- the clock: two of the authorization machine, one of each slot
fired_sends : (k : ℕ) (w : Progress) (n : ℕ) → k ≤ 4 → n + k ≤ 6 → Sends w n → Sends (slots_fired_of k w) (n + k)
unfolding slots_fired_of slot_fired_of
fired_sends zero w n in_four room s = sends_wider w n (n + 0) (omega arith) s
fired_sends (suc k) w n in_four room s =
    let v = slots_fired_of k w in
    let before = fired_sends k w n (omega arith) (omega arith) s in
    let event = tek_timer_event_of (slot_at v.modem k).state in
    sends_either (is_due_of (slot_at v.modem k).timer v.modem.clock) (deliver v k event) v (n + suc k)
    (sends_wider (deliver v k event) (n + k + 1) (n + suc k) (omega arith)
    (deliver_sends v k event no_params_of no_params_of (n + k) (omega arith) (omega arith) before))
    (sends_wider v (n + k) (n + suc k) (omega arith) before)

pub clocked_sends : (m : Modem) (t : ℕ) → Sayable m → Sends (clocked m t) 6
unfolding clocked auth_fired_of
clocked_sends m t s =
    let c = with_clock_of m t in
    let now : Sayable c = record { own = s.own; slots = s.slots; ak = s.ak } in
    let event = auth_timer_event_of m.authorization.state in
    fired_sends 4 (auth_fired_of (starting c)) 2 (omega arith) (omega arith)
    (sends_either (is_due_of m.authorization.timer t) (plain_event_of (starting c) event) (starting c) 2
    (plain_sends c event now)
    (sends_wider (starting c) 0 2 (omega arith) (sends_none c now)))

-- ---- an Authorization Reply: after it, no more messages than two and the slots in use
pub record Listing (w : Progress) : Type 0 where
  pub sends : Sends w (2 + w.modem.used)
  pub used : w.modem.used ≤ 4

listing_either : (b : Bool) (v w : Progress) → (b ≡ true → Listing v) → Listing w → Listing (cond b v w)
listing_either true v w p q = p refl
listing_either false v w p q = q

emptied_listing : (w : Progress) → Sends w 2 → Listing (emptied w)
unfolding emptied
emptied_listing w s =
    record {
      sends =
          record {
            modem = record { own = s.modem.own; slots = λ i h. rw (get_or-replicate 4 i no_tek_of past_tek h) (omega arith); ak = s.modem.ak };
            out = s.out;
          };
      used = omega arith;
    }

appended_listing : (w : Progress) (t : Tek) (event : ℕ) → t.said ≤ 16383 → Listing w → Listing (appended w (tek_step_of t event (tek_context_of w.modem) no_params_of no_params_of))
unfolding appended
appended_listing w t event small l = go (leb 4 w.modem.used) refl
  where
    x : TekContext
    x = tek_context_of w.modem

    s : TekStep
    s = tek_step_of t event x no_params_of no_params_of

    go : (b : Bool) → leb 4 w.modem.used ≡ b → Listing (cond b w (placed w s))
    go true e = l
    go false e =
        let less : w.modem.used < 4 = leb-false 4 w.modem.used e in
        let after : s.machine.said ≤ 16383 = rw (tek_said t event x no_params_of no_params_of) small in
        record {
          sends =
              record {
                modem =
                    record {
                      own = l.sends.modem.own;
                      slots = λ j h. set_small w.modem.teks w.modem.used j s.machine after (l.sends.modem.slots j h);
                      ak = l.sends.modem.ak;
                    };
                out =
                    out_wider (with_message_of w.out s.sends) (2 + w.modem.used + 1) (2 + (w.modem.used + 1)) (omega arith)
                    (with_message_fits w.out s.sends (2 + w.modem.used) (omega arith) l.sends.out
                    (tek_sends t event x no_params_of no_params_of small l.sends.modem.ak));
              };
          used = omega arith;
        }

kept_listing : (k : ℕ) (f : Fields) (old : Modem) (w : Progress) → k ≤ 4 → Sayable old → Listing w → Listing (kept_to k f old w)
unfolding kept_to kept_one_of kept_if_of
kept_listing zero f old w in_four s l = l
kept_listing (suc k) f old w in_four s l =
    let t = slot_at old k in
    let v = kept_to k f old w in
    let before = kept_listing k f old w (omega arith) s l in
    listing_either (ltb k old.used && lists f t.said t.suite && not (eqb t.state A)) (appended v (tek_step_of t 4 (tek_context_of v.modem) no_params_of no_params_of)) v
    (λ e. appended_listing v t 4 (s.slots k (omega arith)) before) before

started_listing : (k : ℕ) (f : Fields) (w : Progress) → ((i : ℕ) → i < f.count → (descriptor_at_of f i).said ≤ 16383) → Listing w → Listing (started_to k f w)
unfolding started_to started_one_of started_if_of
started_listing zero f w small l = l
started_listing (suc k) f w small l =
    let d = descriptor_at_of f k in
    let v = started_to k f w in
    let before = started_listing k f w small l in
    listing_either (ltb k f.count && leb 4 (slot_of_said_of v.modem d.said)) (appended v (tek_step_of (fresh_tek_of d) 2 (tek_context_of v.modem) no_params_of no_params_of)) v
    (λ e.
    let in_count = (both (ltb k f.count) (leb 4 (slot_of_said_of v.modem d.said)) e).0 in
    appended_listing v (fresh_tek_of d) 2 (small k (ltb-true k f.count in_count)) before) before

listing_sends : (w : Progress) → Listing w → Sends w 6
listing_sends w l = sends_wider w (2 + w.modem.used) 6 (omega (arith, l.used)) l.sends

-- What the steps use of a message's fields is in range
pub record Heard (f : Fields) : Type 0 where
  pub ak : f.ak.0 ≤ 15
  pub listed : (i : ℕ) → i < f.count → (descriptor_at_of f i).said ≤ 16383

replied_sends : (m : Modem) (f : Fields) → Sayable m → Heard f → Sends (replied m f) 6
unfolding replied relisted listed_anew_of
replied_sends m f s h =
    let w = deliver_auth_of (starting m) 4 f.ak f.life in
    let two : Sends w 2 = auth_sends (starting m) 4 f.ak f.life 0 h.ak (omega arith) (sends_none m s) in
    let empty : Listing (emptied w) = emptied_listing w two in
    sends_either (eqb m.authorization.state D) (relisted f w) (listed_anew_of f w) 6
    (listing_sends (relisted f w) (started_listing 4 f (kept_to 4 f w.modem (emptied w)) h.listed (kept_listing 4 f w.modem (emptied w) (omega arith) two.modem empty)))
    (listing_sends (listed_anew_of f w) (started_listing 4 f (emptied w) h.listed empty))

-- ---- the other messages
rejected_sends : (m : Modem) (error : ℕ) → Sayable m → Sends (rejected m error) 6
unfolding rejected
rejected_sends m error s =
    let w = plain_event_of (starting m) (reject_event_of error) in
    let two : Sends w 2 = plain_sends m (reject_event_of error) s in
    sends_either (eqb m.authorization.state D) (deliver_all_of 4 1 w) w 6 (all_sends 4 1 w 2 (omega arith) (omega arith) two) (sends_wider w 2 6 (omega arith) two)

invalidated_sends : (m : Modem) (identifier : ℕ) → Sayable m → Sends (invalidated m identifier) 6
unfolding invalidated
invalidated_sends m identifier s =
    let i = slot_asking_of m identifier in
    let w = plain_event_of (starting m) 7 in
    let two : Sends w 2 = plain_sends m 7 s in
    sends_either (eqb (authorization_next_of 7 m.authorization.state) blank) (starting m) (pended_if (ltb 0 identifier && ltb i 4) w i) 6
    (sends_wider (starting m) 0 6 (omega arith) (sends_none m s))
    (go (ltb 0 identifier) (ltb i 4) refl two)
  where
    i : ℕ
    i = slot_asking_of m identifier

    w : Progress
    w = plain_event_of (starting m) 7

    go : (b c : Bool) → ltb i 4 ≡ c → Sends w 2 → Sends (pended_if (b && c) w i) 6
    go true true e two = sends_wider (deliver w i 3) 3 6 (omega arith) (deliver_sends w i 3 no_params_of no_params_of 2 (ltb-true i 4 e) (omega arith) two)
    go true false e two = sends_wider w 2 6 (omega arith) two
    go false c e two = sends_wider w 2 6 (omega arith) two

pub received_sends : (m : Modem) (f : Fields) → Sayable m → Heard f
    → ((f.code ≡ 5 → ⊥) → (f.code ≡ 6 → ⊥) → (f.code ≡ 10 → ⊥) → slot_of_said_of m f.said < 4)
    → Sends (received m f) 6
received_sends m f s h known =
    by_received m f (λ w. Sends w 6)
    (λ e. replied_sends m f s h)
    (λ e. rejected_sends m f.error s)
    (λ e. one 8 f.older f.newer (known (λ q. omega (arith, q)) (λ q. omega (arith, q)) (λ q. omega (arith, q))))
    (λ e. one 9 no_params_of no_params_of (known (λ q. omega (arith, q)) (λ q. omega (arith, q)) (λ q. omega (arith, q))))
    (λ e. invalidated_sends m f.identifier s)
    (λ n₅ n₆ n₁₀. one 5 no_params_of no_params_of (known n₅ n₆ n₁₀))
  where
    i : ℕ
    i = slot_of_said_of m f.said

    one : (event : ℕ) (older newer : Params) → i < 4 → Sends (deliver_reply_of (starting m) i event older newer) 6
    one event older newer in_four =
        sends_wider (deliver_reply_of (starting m) i event older newer) 1 6 (omega arith)
        (deliver_sends (starting m) i event older newer 0 in_four (omega arith) (sends_none m s))

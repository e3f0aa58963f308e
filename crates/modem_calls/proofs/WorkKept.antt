-- What every event of either machine keeps, and every machine that is placed, the clock and every message that is taken keep: a way through
-- the modem's work for any such property of a Progress.
use mathlib.Core.Bool.{Bool, true, false, ◌&&◌, cond}
use Prim.Native.Nat.{ℕ, zero, suc}
use lib.Dec.{eqb, ltb, leb}
use Rattle.key_traffic.specs.declared.numbers.AkNumber.{AkNumber}
use Rattle.message_rules.specs.declared.fields.Descriptor.{Descriptor}
use Rattle.message_rules.specs.declared.fields.Fields.{Fields}
use Rattle.message_rules.specs.declared.fields.Params.{Params}
use Rattle.message_rules.specs.Fields.{no_params_of}
use Rattle.modem_transitions.specs.Transitions.{D, blank, authorization_next_of}
use Rattle.modem_transitions.specs.Timers.{is_due_of}
use Rattle.modem_tek.specs.declared.tek.Tek.{Tek}
use Rattle.modem_tek.specs.Tek.{tek_step_of}
use Rattle.modem_steps.specs.declared.state.Modem.{Modem}
use Rattle.modem_steps.specs.declared.state.Progress.{Progress}
use Rattle.modem_steps.specs.State.{with_clock_of, slot_at, starting}
use Rattle.modem_steps.specs.Machine.{deliver_auth_of, plain_event_of}
use Rattle.modem_steps.specs.Slots.{tek_context_of, deliver_reply_of, deliver, deliver_all_of, slot_of_said_of, slot_asking_of}
use Rattle.modem_steps.specs.Clock.{auth_timer_event_of, tek_timer_event_of, auth_fired_of, slot_fired_of, slots_fired_of, clocked}
use Rattle.modem_reply.specs.Listed.{descriptor_at_of, survives}
use Rattle.modem_reply.specs.Relist.{emptied, placed, appended, kept_if_of, kept_one_of, kept_to, fresh_tek_of, started_if_of, started_one_of, started_to, listed_anew_of, relisted}
use Rattle.modem_reply.specs.Replied.{replied}
use Rattle.modem_receive.specs.Events.{reject_event_of, rejected, pended_if, invalidated}
use Rattle.modem_receive.specs.Receive.{received}
use Rattle.modem_receive.proofs.ReceiveLaws.{by_received}

-- P of a Progress, which gives T of each machine in it: kept by an event of either machine, by emptying the slots, and by placing a machine that has T
pub record Keeps (P : Progress → Type 0) (T : Tek → Type 0) : Type 0 where
  pub machines : (w : Progress) → P w → (i : ℕ) → T (slot_at w.modem i)
  pub fresh : (d : Descriptor) → T (fresh_tek_of d)
  pub auth : (w : Progress) (event : ℕ) (ak : AkNumber) (life : ℕ) → P w → P (deliver_auth_of w event ak life)
  pub tek : (w : Progress) (i event : ℕ) (older newer : Params) → P w → P (deliver_reply_of w i event older newer)
  pub empties : (w : Progress) → P w → P (emptied w)
  pub places : (w : Progress) (t : Tek) (event : ℕ) → T t → P w → P (placed w (tek_step_of t event (tek_context_of w.modem) no_params_of no_params_of))

module _ (P : Progress → Type 0) (T : Tek → Type 0) (k : Keeps P T) where
  either : (b : Bool) (v w : Progress) → P v → P w → P (cond b v w)
  either true v w p q = p
  either false v w p q = q

  pub plain_keeps : (w : Progress) (event : ℕ) → P w → P (plain_event_of w event)
  plain_keeps w event = k.auth w event (record { 0 = 0 }) 0

  pub deliver_keeps : (w : Progress) (i event : ℕ) → P w → P (deliver w i event)
  deliver_keeps w i event = k.tek w i event no_params_of no_params_of

  all_keep : (n event : ℕ) (w : Progress) → P w → P (deliver_all_of n event w)
  unfolding deliver_all_of
  all_keep zero event w h = h
  all_keep (suc n) event w h = deliver_keeps (deliver_all_of n event w) n event (all_keep n event w h)

  -- ---- the clock
  fired_keep : (n : ℕ) (w : Progress) → P w → P (slots_fired_of n w)
  unfolding slots_fired_of slot_fired_of
  fired_keep zero w h = h
  fired_keep (suc n) w h =
      let v = slots_fired_of n w in
      let event = tek_timer_event_of (slot_at v.modem n).state in
      let before = fired_keep n w h in
      either (is_due_of (slot_at v.modem n).timer v.modem.clock) (deliver v n event) v (deliver_keeps v n event before) before

  pub clocked_keeps : (m : Modem) (t : ℕ) → P (starting (with_clock_of m t)) → P (clocked m t)
  unfolding clocked auth_fired_of
  clocked_keeps m t h =
      let w = starting (with_clock_of m t) in
      let event = auth_timer_event_of m.authorization.state in
      fired_keep 4 (auth_fired_of w) (either (is_due_of m.authorization.timer t) (plain_event_of w event) w (plain_keeps w event h) h)

  -- ---- a message
  appended_keeps : (w : Progress) (t : Tek) (event : ℕ) → T t → P w → P (appended w (tek_step_of t event (tek_context_of w.modem) no_params_of no_params_of))
  unfolding appended
  appended_keeps w t event q h =
      either (leb 4 w.modem.used) w (placed w (tek_step_of t event (tek_context_of w.modem) no_params_of no_params_of)) h (k.places w t event q h)

  kept_keep : (n : ℕ) (f : Fields) (old : Modem) (w : Progress) → ((i : ℕ) → T (slot_at old i)) → P w → P (kept_to n f old w)
  unfolding kept_to kept_one_of kept_if_of
  kept_keep zero f old w q h = h
  kept_keep (suc n) f old w q h =
      let t = slot_at old n in
      let v = kept_to n f old w in
      let before = kept_keep n f old w q h in
      either (survives (ltb n old.used) f t.said t.suite t.state) (appended v (tek_step_of t 4 (tek_context_of v.modem) no_params_of no_params_of)) v
      (appended_keeps v t 4 (q n) before) before

  started_keep : (n : ℕ) (f : Fields) (w : Progress) → P w → P (started_to n f w)
  unfolding started_to started_one_of started_if_of
  started_keep zero f w h = h
  started_keep (suc n) f w h =
      let d = descriptor_at_of f n in
      let v = started_to n f w in
      let before = started_keep n f w h in
      either (ltb n f.count && leb 4 (slot_of_said_of v.modem d.said)) (appended v (tek_step_of (fresh_tek_of d) 2 (tek_context_of v.modem) no_params_of no_params_of)) v
      (appended_keeps v (fresh_tek_of d) 2 (k.fresh d) before) before

  module _ (m : Modem) (start : P (starting m)) where
    replied_keeps : (f : Fields) → P (replied m f)
    unfolding replied relisted listed_anew_of
    replied_keeps f =
        let w = deliver_auth_of (starting m) 4 f.ak f.life in
        let after : P w = k.auth (starting m) 4 f.ak f.life start in
        let empty : P (emptied w) = k.empties w after in
        either (eqb m.authorization.state D) (relisted f w) (listed_anew_of f w)
        (started_keep 4 f (kept_to 4 f w.modem (emptied w)) (kept_keep 4 f w.modem (emptied w) (k.machines w after) empty)) (started_keep 4 f (emptied w) empty)

    rejected_keeps : (error : ℕ) → P (rejected m error)
    unfolding rejected
    rejected_keeps error =
        let w = plain_event_of (starting m) (reject_event_of error) in
        let after : P w = plain_keeps (starting m) (reject_event_of error) start in
        either (eqb m.authorization.state D) (deliver_all_of 4 1 w) w (all_keep 4 1 w after) after

    invalidated_keeps : (identifier : ℕ) → P (invalidated m identifier)
    unfolding invalidated
    invalidated_keeps identifier =
        let i = slot_asking_of m identifier in
        let w = plain_event_of (starting m) 7 in
        let answers = ltb 0 identifier && ltb i 4 in
        let after : P w = plain_keeps (starting m) 7 start in
        either (eqb (authorization_next_of 7 m.authorization.state) blank) (starting m) (pended_if answers w i) start
        (either answers (deliver w i 3) w (deliver_keeps w i 3 after) after)

    pub received_keeps : (f : Fields) → P (received m f)
    received_keeps f =
        let i = slot_of_said_of m f.said in
        by_received m f P
        (λ e. replied_keeps f)
        (λ e. rejected_keeps f.error)
        (λ e. k.tek (starting m) i 8 f.older f.newer start)
        (λ e. deliver_keeps (starting m) i 9 start)
        (λ e. invalidated_keeps f.identifier)
        (λ n₅ n₆ n₁₀. deliver_keeps (starting m) i 5 start)

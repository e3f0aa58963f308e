-- Each step on the modem keeps it within its limits: an event of either machine, and the clock.
use mathlib.Core.Path.{◌≡◌, refl, sym, ◌∙◌, subst}
use mathlib.Core.Bool.{Bool, true, false, cond}
use mathlib.Core.List.{List}
use Prim.Native.Nat.{ℕ, zero, suc, ◌≤◌, ◌<◌}
use native.Mathlib.Omega.{arith}
use lib.Dec.{ltb, eqb}
use lib.ListN.{length, get_or, set}
use lib.Seq.{get_or-set_same, get_or-set_other, set_out}
use borrow.Author.Tests.{eqb-true, eqb-false}
use Rattle.key_traffic.specs.declared.numbers.AkNumber.{AkNumber}
use Rattle.key_traffic.specs.Suites.{width_of}
use Rattle.questions.proofs.ListLaws.{IfLt, if_lt}
use Rattle.message_rules.specs.declared.fields.Params.{Params}
use Rattle.message_rules.specs.Fields.{no_params_of}
use Rattle.message_rules.proofs.HoldsLaws.{never}
use Rattle.modem_tek.specs.declared.tek.Tek.{Tek}
use Rattle.modem_transitions.specs.Transitions.{D}
use Rattle.modem_transitions.specs.Timers.{is_due_of}
use Rattle.modem_tek.specs.TekParts.{pair_of}
use Rattle.modem_tek.specs.Tek.{tek_step_of}
use Rattle.modem_authorization.specs.Authorization.{AuthReady}
use Rattle.modem_steps.specs.declared.state.Modem.{Modem}
use Rattle.modem_steps.specs.declared.state.Progress.{Progress}
use Rattle.modem_steps.specs.State.{with_clock_of, past_tek, slot_at, starting}
use Rattle.modem_steps.specs.Slots.{tek_context_of, stepped_at_of, deliver_reply_of, deliver, deliver_all_of}
use Rattle.modem_steps.specs.Machine.{auth_context_of, auth_stepped_of, deliver_auth_of, plain_event_of}
use Rattle.modem_steps.specs.Clock.{auth_timer_event_of, tek_timer_event_of, auth_fired_of, slot_fired_of, slots_fired_of, clocked}
use Rattle.modem_limits.specs.Limits.{pair_held_fits_of, tek_fits_of, tek_zero_of}
use Rattle.modem_calls.proofs.AskedLaws.{waits_ready}
use Rattle.modem_limits.proofs.LimitsLaws.{Apart, InLimits, zero_slot}
use Rattle.modem_calls.proofs.OutLaws.{tek_said}
use Rattle.modem_calls.proofs.KeptMachines.{tek_later, auth_later, step_fits, step_stays, auth_fits}

-- the modem of a piece of work is within the limits
abbrev pub Kept : Progress → Type 0
Kept w = InLimits w.modem

pub kept_either : (b : Bool) (v w : Progress) → Kept v → Kept w → Kept (cond b v w)
kept_either true v w p q = p
kept_either false v w p q = q

-- ---- one slot put
pub set_cases : (P : ℕ → Tek → Type 0) (l : List Tek) (i : ℕ) (t : Tek) (j : ℕ) → (i < length l → P i t) → P j (get_or l j past_tek) → P j (get_or (set l i t) j past_tek)
set_cases P l i t j new old = go (eqb j i) refl
  where
    here : (b : Bool) → IfLt i (length l) b → P i (get_or l i past_tek) → P i (get_or (set l i t) i past_tek)
    here true inside p = subst (P i) (sym (get_or-set_same l i t past_tek inside)) (new inside)
    here false over p = subst (λ (k : List Tek). P i (get_or k i past_tek)) (sym (set_out l i t over)) p

    go : (b : Bool) → eqb j i ≡ b → P j (get_or (set l i t) j past_tek)
    go true e =
        let same : j ≡ i = eqb-true j i e in
        subst (λ (k : ℕ). P k (get_or (set l i t) k past_tek)) (sym same)
        (here (ltb i (length l)) (if_lt i (length l)) (subst (λ (k : ℕ). P k (get_or l k past_tek)) same old))
    go false e = subst (P j) (sym (get_or-set_other l i j t past_tek (eqb-false j i e))) old

-- a machine with the SAID that the slot had
pub apart_set : (n : ℕ) (l : List Tek) (i : ℕ) (t : Tek) → t.said ≡ (get_or l i past_tek).said → Apart n l → Apart n (set l i t)
apart_set n l i t e a p q less h same =
    a p q less h (sym (set_cases (λ j u. u.said ≡ (get_or l j past_tek).said) l i t p (λ _. e) refl)
    ∙ same ∙ set_cases (λ j u. u.said ≡ (get_or l j past_tek).said) l i t q (λ _. e) refl)

-- ---- a TEK machine takes an event but 2
pub deliver_kept : (w : Progress) (i event : ℕ) (older newer : Params) → i < 4 → eqb event 2 ≡ false → newer.life ≤ 604800
    → (eqb event 8 ≡ true → pair_held_fits_of true (width_of (slot_at w.modem i).suite) w.modem.clock (pair_of w.modem.clock older newer) ≡ true)
    → Kept w → Kept (deliver_reply_of w i event older newer)
unfolding deliver_reply_of stepped_at_of
deliver_kept w i event older newer in_four two short new l =
    record {
      settings = l.settings;
      clock = l.clock;
      address = l.address;
      said = l.said;
      authorization = l.authorization;
      used = l.used;
      slots = λ j h. set_cases (λ k u. cond (ltb k m.used) (tek_fits_of m.settings.waits m.clock u) (tek_zero_of u) ≡ true) m.teks i after j (λ _. slot (ltb i m.used) (l.slots i in_four)) (l.slots j h);
      apart = apart_set m.used m.teks i after (tek_said t event (tek_context_of m) older newer) l.apart;
    }
  where
    m : Modem
    m = w.modem

    t : Tek
    t = slot_at w.modem i

    after : Tek
    after = (tek_step_of (slot_at w.modem i) event (tek_context_of w.modem) older newer).machine

    slot : (b : Bool) → cond b (tek_fits_of m.settings.waits m.clock t) (tek_zero_of t) ≡ true
        → cond b (tek_fits_of m.settings.waits m.clock after) (tek_zero_of after) ≡ true
    slot true e = step_fits m.settings.waits t event (tek_context_of m) older newer refl refl short new e
    slot false e = rw (step_stays m.settings.waits t event (tek_context_of m) older newer (zero_slot t e).1 two) e

-- an event without TEK-Parameters
pub plain_deliver_kept : (w : Progress) (i event : ℕ) → i < 4 → eqb event 2 ≡ false → eqb event 8 ≡ false → Kept w → Kept (deliver w i event)
plain_deliver_kept w i event in_four two eight l =
    deliver_kept w i event no_params_of no_params_of in_four two (omega arith)
    (λ e. let z : true ≡ false = sym e ∙ eight in never (sym z)) l

pub all_kept : (k event : ℕ) (w : Progress) → k ≤ 4 → eqb event 2 ≡ false → eqb event 8 ≡ false → Kept w → Kept (deliver_all_of k event w)
unfolding deliver_all_of
all_kept zero event w few two eight l = l
all_kept (suc k) event w few two eight l = plain_deliver_kept (deliver_all_of k event w) k event (omega arith) two eight (all_kept k event w (omega arith) two eight l)

-- ---- the authorization machine takes an event
pub auth_kept : (w : Progress) (event : ℕ) (ak : AkNumber) (life : ℕ) → ak.0 ≤ 15 → life ≤ 12096000 → Kept w → Kept (deliver_auth_of w event ak life)
unfolding deliver_auth_of auth_stepped_of
auth_kept w event ak life low short l =
    let m = w.modem in
    let r = waits_ready m.clock m.settings l.clock l.settings in
    let x : AuthReady (auth_context_of m ak life) =
    record {
      clock_small = l.clock;
      authorize_small = r.authorize_small;
      reauthorize_small = r.reauthorize_small;
      reject_small = r.reject_small;
      life_small = short;
    } in
    record {
      settings = l.settings;
      clock = l.clock;
      address = l.address;
      said = l.said;
      authorization = auth_fits m.authorization event (auth_context_of m ak life) x low l.authorization;
      used = l.used;
      slots = l.slots;
      apart = l.apart;
    }

pub plain_kept : (w : Progress) (event : ℕ) → Kept w → Kept (plain_event_of w event)
plain_kept w event l = auth_kept w event (record { 0 = 0 }) 0 (omega arith) (omega arith) l

-- ---- the clock
pub later_kept : (m : Modem) (t : ℕ) → m.clock ≤ t → t ≤ 1000000000000 → InLimits m → InLimits (with_clock_of m t)
later_kept m t later small l =
    record {
      settings = l.settings;
      clock = small;
      address = l.address;
      said = l.said;
      authorization = auth_later m.clock t m.authorization later l.authorization;
      used = l.used;
      slots = λ i h. slot (ltb i m.used) (slot_at m i) (l.slots i h);
      apart = l.apart;
    }
  where
    slot : (b : Bool) (u : Tek) → cond b (tek_fits_of m.settings.waits m.clock u) (tek_zero_of u) ≡ true
        → cond b (tek_fits_of m.settings.waits t u) (tek_zero_of u) ≡ true
    slot true u e = tek_later m.settings.waits m.clock t u later e
    slot false u e = e

-- a TEK machine's timer tells neither 2 nor 8
timer_event : (state : ℕ) → (eqb (tek_timer_event_of state) 2 ≡ false) × (eqb (tek_timer_event_of state) 8 ≡ false)
unfolding tek_timer_event_of
timer_event state = go (eqb state D)
  where
    go : (b : Bool) → (eqb (cond b 7 6) 2 ≡ false) × (eqb (cond b 7 6) 8 ≡ false)
    go true = (refl, refl)
    go false = (refl, refl)

fired_kept : (k : ℕ) (w : Progress) → k ≤ 4 → Kept w → Kept (slots_fired_of k w)
unfolding slots_fired_of slot_fired_of
fired_kept zero w few l = l
fired_kept (suc k) w few l =
    let v = slots_fired_of k w in
    let before = fired_kept k w (omega arith) l in
    let event = tek_timer_event_of (slot_at v.modem k).state in
    let other = timer_event (slot_at v.modem k).state in
    kept_either (is_due_of (slot_at v.modem k).timer v.modem.clock) (deliver v k event) v
    (plain_deliver_kept v k event (omega arith) other.0 other.1 before) before

pub clocked_kept : (m : Modem) (t : ℕ) → m.clock ≤ t → t ≤ 1000000000000 → InLimits m → Kept (clocked m t)
unfolding clocked auth_fired_of
clocked_kept m t later small l =
    let c = with_clock_of m t in
    let now : InLimits c = later_kept m t later small l in
    let event = auth_timer_event_of m.authorization.state in
    fired_kept 4 (auth_fired_of (starting c)) (omega arith)
    (kept_either (is_due_of m.authorization.timer t) (plain_event_of (starting c) event) (starting c) (plain_kept (starting c) event now) now)

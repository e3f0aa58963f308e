-- A TEK machine that is not in Start stands under an authorization machine in Authorized or Reauth Wait: what each step of the modem does to that.
use mathlib.Core.Path.{◌≡◌, refl, sym, ◌∙◌, ap, subst}
use mathlib.Core.Bool.{Bool, true, false, ◌||◌, cond}
use Prim.Native.Nat.{ℕ, zero, suc, ◌≤◌, ◌<◌}
use native.Mathlib.Omega.{arith}
use lib.Dec.{eqb}
use borrow.Author.Tests.{eqb-true}
use Rattle.key_traffic.specs.declared.numbers.AkNumber.{AkNumber}
use Rattle.message_rules.specs.declared.fields.Params.{Params}
use Rattle.message_rules.specs.Fields.{no_params_of}
use Rattle.message_rules.proofs.HoldsLaws.{never}
use Rattle.modem_transitions.specs.Transitions.{A, C, D, blank, next_in, authorization_transitions, tek_transitions, authorization_next_of, tek_next_of}
use Rattle.modem_transitions.specs.Timers.{is_due_of}
use Rattle.modem_tek.specs.declared.tek.Tek.{Tek}
use Rattle.modem_tek.specs.declared.tek.TekContext.{TekContext}
use Rattle.modem_tek.specs.Tek.{tek_moved, tek_stays, tek_step_of}
use Rattle.modem_authorization.specs.declared.authorization.Authorization.{Authorization}
use Rattle.modem_authorization.specs.declared.authorization.AuthContext.{AuthContext}
use Rattle.modem_authorization.specs.Authorization.{auth_stays, auth_moved, auth_step_of}
use Rattle.modem_steps.specs.declared.state.Modem.{Modem}
use Rattle.modem_steps.specs.declared.state.Progress.{Progress}
use Rattle.modem_steps.specs.State.{with_clock_of, slot_at, starting}
use Rattle.modem_steps.specs.Machine.{auth_context_of, auth_stepped_of, deliver_auth_of, plain_event_of}
use Rattle.modem_steps.specs.Slots.{tek_context_of, stepped_at_of, deliver_reply_of, deliver}
use Rattle.modem_steps.specs.Clock.{auth_timer_event_of, tek_timer_event_of, auth_fired_of, slot_fired_of, slots_fired_of, clocked}
use Rattle.modem_calls.proofs.KeptSteps.{set_cases}
use Rattle.demand_plant.specs.World.{clock}
use Rattle.demand_plant.specs.Run.{after}

-- ---- the states in which an authorization key is held
abbrev pub authorized : ℕ → Bool
authorized state = eqb state C || eqb state D

-- Every TEK machine is in A
abbrev pub Idle : Modem → Type 0
Idle m = (i : ℕ) → i < 4 → (slot_at m i).state ≡ A

abbrev pub Under : Bool → Modem → Type 0
Under true m = Unit {0}
Under false m = Idle m

-- All machines are in A, but under an authorization machine in C or D
abbrev pub Held : Modem → Type 0
Held m = Under (authorized m.authorization.state) m

pub idle_under : (b : Bool) (m : Modem) → Idle m → Under b m
idle_under true m idle = tt
idle_under false m idle = idle

pub under_by : (b : Bool) (m : Modem) → b ≡ true → Under b m
under_by b m e = subst (λ (x : Bool). Under x m) (sym e) tt

pub either : (P : Progress → Type 0) (b : Bool) (v w : Progress) → P v → P w → P (cond b v w)
either P true v w p q = p
either P false v w p q = q

-- ---- one TEK machine
stays_idle : (t : Tek) (event : ℕ) (x : TekContext) (older newer : Params) → eqb (tek_next_of event A) blank ≡ true → t.state ≡ A → (tek_step_of t event x older newer).machine.state ≡ A
unfolding tek_step_of
stays_idle t event x older newer quiet e = go (eqb (tek_next_of event t.state) blank) (ap (λ (s : ℕ). eqb (tek_next_of event s) blank) e ∙ quiet)
  where
    go : (b : Bool) → b ≡ true → (cond b (tek_stays t x) (tek_moved event (tek_next_of event t.state) t x older newer)).machine.state ≡ A
    go true q = e
    go false q = never q

pub stopped_at : (t : Tek) (x : TekContext) (state : ℕ) → state ≤ 5 → t.state ≡ state → (tek_step_of t 1 x no_params_of no_params_of).machine.state ≡ A
unfolding tek_step_of tek_moved next_in tek_transitions
stopped_at t x zero h e = rw e
stopped_at t x (suc zero) h e = rw e
stopped_at t x (suc (suc zero)) h e = rw e
stopped_at t x (suc (suc (suc zero))) h e = rw e
stopped_at t x (suc (suc (suc (suc zero)))) h e = rw e
stopped_at t x (suc (suc (suc (suc (suc zero))))) h e = rw e
stopped_at t x (suc (suc (suc (suc (suc (suc s)))))) h e = absurd (omega arith)

-- ---- the modem's machines, step by step
module _ (w : Progress) (i event : ℕ) (older newer : Params) (quiet : eqb (tek_next_of event A) blank ≡ true) where
  pub reply_held : Held w.modem → Held (deliver_reply_of w i event older newer).modem
  unfolding deliver_reply_of stepped_at_of
  reply_held = go (authorized w.modem.authorization.state)
    where
      go : (b : Bool) → Under b w.modem → Under b (stepped_at_of w i (tek_step_of (slot_at w.modem i) event (tek_context_of w.modem) older newer)).modem
      go true h = tt
      go false idle =
          λ j. set_cases (λ k u. k < 4 → u.state ≡ A) w.modem.teks i (tek_step_of (slot_at w.modem i) event (tek_context_of w.modem) older newer).machine j
          (λ _ k. stays_idle (slot_at w.modem i) event (tek_context_of w.modem) older newer quiet (idle i k)) (idle j)

pub deliver_held : (w : Progress) (i event : ℕ) → eqb (tek_next_of event A) blank ≡ true → Held w.modem → Held (deliver w i event).modem
deliver_held w i event quiet = reply_held w i event no_params_of no_params_of quiet

-- the state after an event of the authorization machine
abbrev pub next : ℕ → ℕ → ℕ
next event state = cond (eqb (authorization_next_of event state) blank) state (authorization_next_of event state)

pub auth_state : (a : Authorization) (event : ℕ) (x : AuthContext) → (auth_step_of a event x).machine.state ≡ next event a.state
unfolding auth_step_of auth_moved
auth_state a event x = go (eqb (authorization_next_of event a.state) blank)
  where
    go : (b : Bool) → (cond b (auth_stays a x) (auth_moved event (authorization_next_of event a.state) a x)).machine.state ≡ cond b a.state (authorization_next_of event a.state)
    go true = refl
    go false = refl

-- C or D
pub by_authorized : (P : ℕ → Type 0) → P C → P D → (s : ℕ) → authorized s ≡ true → P s
by_authorized P c d s e = go (eqb s C) refl (eqb s D) refl e
  where
    go : (b₂ : Bool) → eqb s C ≡ b₂ → (b₃ : Bool) → eqb s D ≡ b₃ → b₂ || b₃ ≡ true → P s
    go true e₂ b₃ e₃ q = subst P (sym (eqb-true s C e₂)) c
    go false e₂ true e₃ q = subst P (sym (eqb-true s D e₃)) d
    go false e₂ false e₃ q = never q

module _ (w : Progress) (event : ℕ) (ak : AkNumber) (life : ℕ) where
  -- an event that leads from the state it meets, where that is C or D, to C or D
  pub auth_held : (authorized w.modem.authorization.state ≡ true → authorized (next event w.modem.authorization.state) ≡ true)
      → Held w.modem → Held (deliver_auth_of w event ak life).modem
  unfolding deliver_auth_of auth_stepped_of
  auth_held stays = go (authorized w.modem.authorization.state) refl
    where
      a : Authorization
      a = w.modem.authorization

      x : AuthContext
      x = auth_context_of w.modem ak life

      go : (b : Bool) → authorized a.state ≡ b → Under b w.modem → Held (auth_stepped_of w (auth_step_of a event x)).modem
      go true e h = under_by _ _ (ap authorized (auth_state a event x) ∙ stays e)
      go false e idle = idle_under (authorized (auth_step_of a event x).machine.state) (auth_stepped_of w (auth_step_of a event x)).modem idle

pub plain_held : (w : Progress) (event : ℕ) → authorized (next event C) ≡ true → authorized (next event D) ≡ true → Held w.modem → Held (plain_event_of w event).modem
plain_held w event c d = auth_held w event (record { 0 = 0 }) 0 (by_authorized (λ s. authorized (next event s) ≡ true) c d w.modem.authorization.state)

-- ---- the clock
fired_held : (w : Progress) → Held w.modem → Held (auth_fired_of w).modem
unfolding auth_fired_of auth_timer_event_of next_in authorization_transitions
fired_held w h =
    either (λ v. Held v.modem) (is_due_of w.modem.authorization.timer w.modem.clock) (plain_event_of w (auth_timer_event_of w.modem.authorization.state)) w
    (go (eqb w.modem.authorization.state C)) h
  where
    go : (b : Bool) → Held (plain_event_of w (cond b 6 5)).modem
    go true = plain_held w 6 refl refl h
    go false = plain_held w 5 refl refl h

slot_held : (w : Progress) (i : ℕ) → Held w.modem → Held (slot_fired_of w i).modem
unfolding slot_fired_of tek_timer_event_of next_in tek_transitions
slot_held w i h =
    either (λ v. Held v.modem) (is_due_of (slot_at w.modem i).timer w.modem.clock) (deliver w i (tek_timer_event_of (slot_at w.modem i).state)) w
    (go (eqb (slot_at w.modem i).state D)) h
  where
    go : (b : Bool) → Held (deliver w i (cond b 7 6)).modem
    go true = deliver_held w i 7 refl h
    go false = deliver_held w i 6 refl h

slots_held : (n : ℕ) (w : Progress) → Held w.modem → Held (slots_fired_of n w).modem
unfolding slots_fired_of
slots_held zero w h = h
slots_held (suc n) w h = slot_held (slots_fired_of n w) n (slots_held n w h)

pub clocked_held : (m : Modem) (t : ℕ) → Held m → Held (clocked m t).modem
unfolding clocked
clocked_held m t h = slots_held 4 (auth_fired_of (starting (with_clock_of m t))) (fired_held (starting (with_clock_of m t)) (go (authorized m.authorization.state) h))
  where
    go : (b : Bool) → Under b m → Under b (with_clock_of m t)
    go true q = tt
    go false idle = idle

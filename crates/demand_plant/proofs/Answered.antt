-- The first slot whose request waits under an Identifier, and what an Authorization Invalid with that Identifier does where it is not 0.
use mathlib.Core.Path.{◌≡◌, refl, sym, ◌∙◌, ap}
use mathlib.Core.Bool.{Bool, true, false, ◌&&◌, ◌||◌, cond}
use mathlib.Core.List.{List}
use Prim.Native.Nat.{ℕ, zero, suc, ◌<◌}
use native.Mathlib.Omega.{arith}
use lib.Dec.{ltb, eqb}
use lib.ListN.{length, get_or, set, get_or-eq_default}
use lib.Seq.{get_or-set_same}
use borrow.Author.Tests.{ltb-true, lt-ltb, eqb-true}
use Rattle.questions.proofs.ListLaws.{IfLt, if_lt}
use Rattle.message_rules.specs.Fields.{no_params_of}
use Rattle.message_rules.proofs.HoldsLaws.{never}
use Rattle.modem_transitions.specs.Transitions.{B, D, E, blank, next_in, authorization_transitions, tek_transitions, authorization_next_of}
use Rattle.modem_transitions.proofs.IdentifierLaws.{Solicited}
use Rattle.modem_tek.specs.declared.tek.Tek.{Tek}
use Rattle.modem_tek.specs.declared.tek.TekContext.{TekContext}
use Rattle.modem_tek.specs.Tek.{tek_moved, tek_step_of}
use Rattle.modem_steps.specs.declared.state.Modem.{Modem}
use Rattle.modem_steps.specs.declared.state.Progress.{Progress}
use Rattle.modem_steps.specs.State.{past_tek, slot_at, starting}
use Rattle.modem_steps.specs.Machine.{auth_context_of, auth_stepped_of, deliver_auth_of, plain_event_of}
use Rattle.modem_steps.specs.Slots.{stepped_at_of, deliver_reply_of, deliver, first_slot, is_waiting_of, slot_asking_of}
use Rattle.modem_limits.specs.Limits.{modem_fits_of, tek_fits_of, tek_zero_of}
use Rattle.modem_limits.proofs.LimitsLaws.{limits_of, zero_slot}
use Rattle.modem_receive.specs.Events.{pended_if, invalidated}
use Rattle.demand_plant.proofs.Under.{authorized, next, auth_state, by_authorized}

-- ---- the first slot that a search finds: before it none in use passes the test
pub before_first : (f : Tek → Bool) (m : Modem) (k : ℕ) → k < first_slot f m → k < 4 → k < m.used → f (slot_at m k) ≡ false
unfolding first_slot
before_first f m k h small inside = go (at 0) refl (at 1) refl (at 2) refl (at 3) refl k h small inside
  where
    at : ℕ → Bool
    at i = ltb i m.used && f (slot_at m i)

    fails : (i : ℕ) → at i ≡ false → i < m.used → f (slot_at m i) ≡ false
    fails i e less = rw (lt-ltb i m.used less) at e

    found : Bool → Bool → Bool → Bool → ℕ
    found a b c d = cond a 0 (cond b 1 (cond c 2 (cond d 3 4)))

    go : (a : Bool) → at 0 ≡ a → (b : Bool) → at 1 ≡ b → (c : Bool) → at 2 ≡ c → (d : Bool) → at 3 ≡ d
        → (i : ℕ) → i < found a b c d → i < 4 → i < m.used → f (slot_at m i) ≡ false
    go true ea b eb c ec d ed i less four in_use = absurd (omega (arith, less))
    go false ea b eb c ec d ed zero less four in_use = fails 0 ea in_use
    go false ea true eb c ec d ed (suc i) less four in_use = absurd (omega (arith, less))
    go false ea false eb c ec d ed (suc zero) less four in_use = fails 1 eb in_use
    go false ea false eb true ec d ed (suc (suc i)) less four in_use = absurd (omega (arith, less))
    go false ea false eb false ec d ed (suc (suc zero)) less four in_use = fails 2 ec in_use
    go false ea false eb false ec true ed (suc (suc (suc i))) less four in_use = absurd (omega (arith, less))
    go false ea false eb false ec false ed (suc (suc (suc zero))) less four in_use = fails 3 ed in_use
    go false ea false eb false ec false ed (suc (suc (suc (suc i)))) less four in_use = absurd (omega (arith, four))

-- so a slot in use that passes it is no earlier
pub first_found_by : (f : Tek → Bool) (m : Modem) (i : ℕ) → i < 4 → i < m.used → f (slot_at m i) ≡ true → first_slot f m < 4
first_found_by f m i small inside e = go (ltb i (first_slot f m)) (if_lt i (first_slot f m))
  where
    go : (b : Bool) → IfLt i (first_slot f m) b → first_slot f m < 4
    go true less = never (sym (before_first f m i less small inside) ∙ e)
    go false over = omega (arith, over, small)

-- ---- a machine that waits is in use
pub waiting_used : (m : Modem) → modem_fits_of m ≡ true → (i : ℕ) → i < 4 → is_waiting_of (slot_at m i) ≡ true → i < m.used
waiting_used m fits i small waits = go (ltb i m.used) refl ((limits_of m fits).slots i small)
  where
    go : (b : Bool) → ltb i m.used ≡ b → cond b (tek_fits_of m.settings.waits m.clock (slot_at m i)) (tek_zero_of (slot_at m i)) ≡ true → i < m.used
    go true e q = ltb-true i m.used e
    go false e q = never (ap (λ (s : ℕ). eqb s B || eqb s E) (sym (zero_slot (slot_at m i) q).1) ∙ waits)

-- ---- Pend stops the asking
pend_rests : (t : Tek) (x : TekContext) → is_waiting_of t ≡ true → is_waiting_of (tek_step_of t 3 x no_params_of no_params_of).machine ≡ false
unfolding tek_step_of tek_moved next_in tek_transitions
pend_rests t x waits = go (eqb t.state B) refl (eqb t.state E) refl waits
  where
    go : (b : Bool) → eqb t.state B ≡ b → (e : Bool) → eqb t.state E ≡ e → b || e ≡ true → is_waiting_of (tek_step_of t 3 x no_params_of no_params_of).machine ≡ false
    go true eb e ee q = rw (eqb-true t.state B eb)
    go false eb true ee q = rw (eqb-true t.state E ee)
    go false eb false ee q = never q

put_rests : (l : List Tek) (j : ℕ) (t : Tek) → is_waiting_of (get_or l j past_tek) ≡ true → is_waiting_of t ≡ false → is_waiting_of (get_or (set l j t) j past_tek) ≡ false
put_rests l j t old new = go (ltb j (length l)) (if_lt j (length l))
  where
    go : (b : Bool) → IfLt j (length l) b → is_waiting_of (get_or (set l j t) j past_tek) ≡ false
    go true inside = ap is_waiting_of (get_or-set_same l j t past_tek inside) ∙ new
    go false over = never (ap is_waiting_of (sym (get_or-eq_default l past_tek over)) ∙ old)

-- ---- an Invalid under an Identifier that waits
module _ (m : Modem) (identifier : ℕ) (asked : Solicited identifier) (there : slot_asking_of m identifier < 4) where
  abbrev work : Progress
  work = deliver (plain_event_of (starting m) 7) (slot_asking_of m identifier) 3

  pub invalid_pends : authorized m.authorization.state ≡ true → invalidated m identifier ≡ work
  unfolding invalidated next_in authorization_transitions
  invalid_pends under =
      by_authorized
      (λ s. cond (eqb (authorization_next_of 7 s) blank) (starting m) (pended_if (ltb 0 identifier && ltb (slot_asking_of m identifier) 4) (plain_event_of (starting m) 7) (slot_asking_of m identifier)) ≡ work)
      met met m.authorization.state under
    where
      met : pended_if (ltb 0 identifier && ltb (slot_asking_of m identifier) 4) (plain_event_of (starting m) 7) (slot_asking_of m identifier) ≡ work
      met = rw (lt-ltb 0 identifier (omega (arith, asked)), lt-ltb (slot_asking_of m identifier) 4 there)

  pub work_reauthorizes : authorized m.authorization.state ≡ true → work.modem.authorization.state ≡ D
  unfolding deliver_reply_of stepped_at_of deliver_auth_of auth_stepped_of next_in authorization_transitions
  work_reauthorizes under =
      auth_state m.authorization 7 (auth_context_of m (record { 0 = 0 }) 0) ∙ by_authorized (λ s. next 7 s ≡ D) refl refl m.authorization.state under

  pub work_rests : is_waiting_of (slot_at m (slot_asking_of m identifier)) ≡ true → is_waiting_of (slot_at work.modem (slot_asking_of m identifier)) ≡ false
  unfolding deliver_reply_of stepped_at_of deliver_auth_of auth_stepped_of
  work_rests waits =
      let j = slot_asking_of m identifier in
      put_rests m.teks j _ waits (pend_rests (slot_at m j) _ waits)

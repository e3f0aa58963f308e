-- What a message that the modem takes does to `Held` of Under.antt: an Authorization Reject stops all machines, a Reply leads to Authorized.
use mathlib.Core.Path.{◌≡◌, refl, sym, ◌∙◌, ap, subst}
use mathlib.Core.Bool.{Bool, true, false, ◌&&◌, ◌||◌, cond}
use mathlib.Core.List.{List}
use Prim.Native.Nat.{ℕ, zero, suc, ◌≤◌, ◌<◌}
use native.Mathlib.Omega.{arith}
use lib.Dec.{ltb, leb, eqb}
use lib.ListN.{length, get_or, set, get_or-eq_default}
use lib.Seq.{get_or-set_same, get_or-set_other, set_out}
use borrow.Author.Tests.{eqb-true, eqb-false, leb-true}
use Rattle.questions.proofs.TestLaws.{both}
use Rattle.questions.proofs.ListLaws.{IfLt, if_lt}
use Rattle.key_traffic.specs.declared.numbers.AkNumber.{AkNumber}
use Rattle.key_traffic.specs.Addresses.{said_fits_of}
use Rattle.key_traffic.specs.Suites.{width_of, suite_known_of}
use Rattle.message_rules.specs.declared.fields.Fields.{Fields}
use Rattle.message_rules.specs.Fields.{no_params_of}
use Rattle.message_rules.proofs.HoldsLaws.{never}
use Rattle.modem_transitions.specs.Transitions.{A, B, C, D, E, blank, next_in, authorization_transitions, tek_transitions, authorization_next_of}
use Rattle.modem_tek.specs.declared.tek.Tek.{Tek}
use Rattle.modem_tek.specs.declared.tek.TekStep.{TekStep}
use Rattle.modem_tek.specs.Tek.{tek_step_of}
use Rattle.modem_authorization.specs.declared.authorization.Authorization.{Authorization}
use Rattle.modem_steps.specs.declared.state.Modem.{Modem}
use Rattle.modem_steps.specs.declared.state.Progress.{Progress}
use Rattle.modem_steps.specs.State.{past_tek, slot_at, starting}
use Rattle.modem_steps.specs.Machine.{auth_context_of, auth_stepped_of, deliver_auth_of, plain_event_of}
use Rattle.modem_steps.specs.Slots.{tek_context_of, stepped_at_of, deliver_reply_of, deliver, deliver_all_of, slot_of_said_of, slot_asking_of}
use Rattle.modem_limits.specs.Limits.{timer_fits_of, longest_wait_of, pair_held_fits_of, modem_fits_of, tek_fits_of, tek_zero_of}
use Rattle.modem_limits.proofs.LimitsLaws.{limits_of, zero_slot}
use Rattle.modem_reply.specs.Listed.{descriptor_at_of, survives}
use Rattle.modem_reply.specs.Relist.{emptied, placed, appended, kept_if_of, kept_one_of, kept_to, fresh_tek_of, started_if_of, started_one_of, started_to, listed_anew_of, relisted}
use Rattle.modem_reply.specs.Replied.{replied}
use Rattle.modem_receive.specs.Events.{reject_event_of, rejected, pended_if, invalidated}
use Rattle.modem_receive.specs.Receive.{auth_waits, identifier_fits_of, received}
use Rattle.modem_calls.proofs.KeptSteps.{set_cases}
use Rattle.demand_plant.specs.World.{clock}
use Rattle.demand_plant.specs.Run.{after}
use Rattle.demand_plant.proofs.Under.{authorized, Held, idle_under, under_by, either, stopped_at, reply_held, deliver_held, next, auth_state, by_authorized, auth_held, plain_held}

-- ---- an Authorization Reject: from D it stops all machines
module _ (m : Modem) (fits : modem_fits_of m ≡ true) where
  state_small : (i : ℕ) → i < 4 → (slot_at m i).state ≤ 5
  unfolding tek_fits_of
  state_small i h = go (ltb i m.used) ((limits_of m fits).slots i h)
    where
      t : Tek
      t = slot_at m i

      go : (b : Bool) → cond b (tek_fits_of m.settings.waits m.clock t) (tek_zero_of t) ≡ true → t.state ≤ 5
      go true e =
          let q = said_fits_of t.said && suite_known_of t.suite in
          let set = timer_fits_of (eqb t.state B || eqb t.state D || eqb t.state E) m.clock (longest_wait_of m.settings.waits t.state) t.timer in
          let pair = pair_held_fits_of (leb D t.state) (width_of t.suite) m.clock t.pair in
          leb-true t.state 5 (both q (leb t.state 5) (both (q && leb t.state 5) set (both (q && leb t.state 5 && set) pair e).0).0).1
      go false e = omega (arith, (zero_slot t e).1)

put_here : (l : List Tek) (n : ℕ) (t : Tek) → t.state ≡ A → (get_or (set l n t) n past_tek).state ≡ A
put_here l n t e = go (ltb n (length l)) (if_lt n (length l))
  where
    go : (b : Bool) → IfLt n (length l) b → (get_or (set l n t) n past_tek).state ≡ A
    go true inside = ap (λ (u : Tek). u.state) (get_or-set_same l n t past_tek inside) ∙ e
    go false over = ap (λ (k : List Tek). (get_or k n past_tek).state) (set_out l n t over) ∙ ap (λ (u : Tek). u.state) (get_or-eq_default l past_tek over)

-- one machine more is stopped
stop_one : (v : Progress) (n : ℕ) → ((i : ℕ) → i < 4 → (slot_at v.modem i).state ≤ 5) → ((i : ℕ) → i < n → i < 4 → (slot_at v.modem i).state ≡ A)
    → ((i : ℕ) → i < 4 → (slot_at (deliver v n 1).modem i).state ≤ 5) × ((i : ℕ) → i < suc n → i < 4 → (slot_at (deliver v n 1).modem i).state ≡ A)
unfolding deliver_reply_of stepped_at_of
stop_one v n small idle = (λ i k. put_small i k, λ i h k. put_idle i h k)
  where
    t : Tek
    t = slot_at v.modem n

    new : Tek
    new = (tek_step_of t 1 (tek_context_of v.modem) no_params_of no_params_of).machine

    new_idle : n < 4 → new.state ≡ A
    new_idle k = stopped_at t (tek_context_of v.modem) t.state (small n k) refl

    put_small : (i : ℕ) → i < 4 → (get_or (set v.modem.teks n new) i past_tek).state ≤ 5
    put_small i = set_cases (λ k u. k < 4 → u.state ≤ 5) v.modem.teks n new i (λ _ k. omega (arith, new_idle k)) (small i)

    put_idle : (i : ℕ) → i < suc n → i < 4 → (get_or (set v.modem.teks n new) i past_tek).state ≡ A
    put_idle i h k = go (eqb i n) refl
      where
        go : (b : Bool) → eqb i n ≡ b → (get_or (set v.modem.teks n new) i past_tek).state ≡ A
        go true e = subst (λ (j : ℕ). (get_or (set v.modem.teks n new) j past_tek).state ≡ A) (sym (eqb-true i n e)) (put_here v.modem.teks n new (new_idle (omega (arith, k, eqb-true i n e))))
        go false e = ap (λ (u : Tek). u.state) (get_or-set_other v.modem.teks n i new past_tek (eqb-false i n e)) ∙ idle i (omega (arith, h, eqb-false i n e)) k

-- machines within their states, stopped one after the other: those below n are in A, the others as they were
stopped : (w : Progress) → ((i : ℕ) → i < 4 → (slot_at w.modem i).state ≤ 5) → (n : ℕ)
    → ((i : ℕ) → i < 4 → (slot_at (deliver_all_of n 1 w).modem i).state ≤ 5) × ((i : ℕ) → i < n → i < 4 → (slot_at (deliver_all_of n 1 w).modem i).state ≡ A)
unfolding deliver_all_of
stopped w small zero = (small, λ i h k. absurd (omega arith))
stopped w small (suc n) = one (deliver_all_of n 1 w) (stopped w small n)
  where
    one : (v : Progress) → ((i : ℕ) → i < 4 → (slot_at v.modem i).state ≤ 5) × ((i : ℕ) → i < n → i < 4 → (slot_at v.modem i).state ≡ A)
        → ((i : ℕ) → i < 4 → (slot_at (deliver v n 1).modem i).state ≤ 5) × ((i : ℕ) → i < suc n → i < 4 → (slot_at (deliver v n 1).modem i).state ≡ A)
    one v p = stop_one v n p.0 p.1

module _ (m : Modem) (fits : modem_fits_of m ≡ true) (h : Held m) where
  -- ---- an Authorization Reject: from D it stops all machines, and from C there is no transition
  reject_held : (event : ℕ) → authorized (next event C) ≡ true
      → Held (cond (eqb m.authorization.state D) (deliver_all_of 4 1 (plain_event_of (starting m) event)) (plain_event_of (starting m) event)).modem
  unfolding deliver_auth_of auth_stepped_of
  reject_held event c = go (eqb m.authorization.state D) refl
    where
      go : (b : Bool) → eqb m.authorization.state D ≡ b → Held (cond b (deliver_all_of 4 1 (plain_event_of (starting m) event)) (plain_event_of (starting m) event)).modem
      go true e =
          let all = stopped (plain_event_of (starting m) event) (state_small m fits) 4 in
          let v = (deliver_all_of 4 1 (plain_event_of (starting m) event)).modem in
          idle_under (authorized v.authorization.state) v (λ i k. all.1 i k k)
      go false e =
          auth_held (starting m) event (record { 0 = 0 }) 0
          (λ q. by_authorized (λ s. (eqb s D ≡ false) → authorized (next event s) ≡ true) (λ _. c) (λ d. never (sym d)) m.authorization.state q e) h

  rejected_held : (error : ℕ) → Held (rejected m error).modem
  unfolding rejected reject_event_of next_in authorization_transitions
  rejected_held error = go (eqb error 6)
    where
      go : (b : Bool) → Held (cond (eqb m.authorization.state D) (deliver_all_of 4 1 (plain_event_of (starting m) (cond b 3 2))) (plain_event_of (starting m) (cond b 3 2))).modem
      go true = reject_held 3 refl
      go false = reject_held 2 refl

  -- ---- an Authorization Invalid
  invalidated_held : (identifier : ℕ) → Held (invalidated m identifier).modem
  unfolding invalidated next_in authorization_transitions tek_transitions
  invalidated_held identifier =
      let v = plain_event_of (starting m) 7 in
      let pended = plain_held (starting m) 7 refl refl h in
      either (λ w. Held w.modem) (eqb (authorization_next_of 7 m.authorization.state) blank) (starting m) (pended_if (ltb 0 identifier && ltb (slot_asking_of m identifier) 4) v (slot_asking_of m identifier)) h
      (either (λ w. Held w.modem) (ltb 0 identifier && ltb (slot_asking_of m identifier) 4) (deliver v (slot_asking_of m identifier) 3) v (deliver_held v (slot_asking_of m identifier) 3 refl pended) pended)

-- ---- an Authorization Reply, in B or D: it leads to C
module _ (a : Authorization) where
  abbrev Auth : Progress → Type 0
  Auth w = w.modem.authorization ≡ a

  appended_auth : (w : Progress) (s : TekStep) → Auth w → Auth (appended w s)
  unfolding appended
  appended_auth w s e = either Auth (leb 4 w.modem.used) w (placed w s) e e

  kept_auth : (n : ℕ) (f : Fields) (old : Modem) (w : Progress) → Auth w → Auth (kept_to n f old w)
  unfolding kept_to kept_one_of kept_if_of
  kept_auth zero f old w e = e
  kept_auth (suc n) f old w e =
      let v = kept_to n f old w in
      let kept = kept_auth n f old w e in
      either Auth (survives (ltb n old.used) f (slot_at old n).said (slot_at old n).suite (slot_at old n).state) (appended v (tek_step_of (slot_at old n) 4 (tek_context_of v.modem) no_params_of no_params_of)) v (appended_auth v _ kept) kept

  started_auth : (n : ℕ) (f : Fields) (w : Progress) → Auth w → Auth (started_to n f w)
  unfolding started_to started_one_of started_if_of
  started_auth zero f w e = e
  started_auth (suc n) f w e =
      let v = started_to n f w in
      let kept = started_auth n f w e in
      either Auth (ltb n f.count && leb 4 (slot_of_said_of v.modem (descriptor_at_of f n).said)) (appended v (tek_step_of (fresh_tek_of (descriptor_at_of f n)) 2 (tek_context_of v.modem) no_params_of no_params_of)) v (appended_auth v _ kept) kept

reply_leads : (m : Modem) (ak : AkNumber) (life : ℕ) → eqb m.authorization.state B || eqb m.authorization.state D ≡ true
    → authorized (deliver_auth_of (starting m) 4 ak life).modem.authorization.state ≡ true
unfolding deliver_auth_of auth_stepped_of next_in authorization_transitions
reply_leads m ak life e = ap authorized (auth_state m.authorization 4 (auth_context_of m ak life)) ∙ go (eqb s B) refl (eqb s D) refl e
  where
    s : ℕ
    s = m.authorization.state

    go : (b₁ : Bool) → eqb s B ≡ b₁ → (b₃ : Bool) → eqb s D ≡ b₃ → b₁ || b₃ ≡ true → authorized (next 4 s) ≡ true
    go true e₁ b₃ e₃ q = subst (λ (x : ℕ). authorized (next 4 x) ≡ true) (sym (eqb-true s B e₁)) refl
    go false e₁ true e₃ q = subst (λ (x : ℕ). authorized (next 4 x) ≡ true) (sym (eqb-true s D e₃)) refl
    go false e₁ false e₃ q = never q

replied_held : (m : Modem) (f : Fields) → eqb m.authorization.state B || eqb m.authorization.state D ≡ true → Held (replied m f).modem
unfolding replied relisted listed_anew_of emptied
replied_held m f waits =
    either (λ w. Held w.modem) (eqb m.authorization.state D) (relisted f v) (listed_anew_of f v)
    (by_auth (relisted f v) (started_auth a 4 f (kept_to 4 f v.modem (emptied v)) (kept_auth a 4 f v.modem (emptied v) refl)))
    (by_auth (listed_anew_of f v) (started_auth a 4 f (emptied v) refl))
  where
    v : Progress
    v = deliver_auth_of (starting m) 4 f.ak f.life

    a : Authorization
    a = v.modem.authorization

    by_auth : (w : Progress) → w.modem.authorization ≡ a → Held w.modem
    by_auth w e = under_by _ _ (ap (λ (x : Authorization). authorized x.state) e ∙ reply_leads m f.ak f.life waits)

-- ---- a message that is taken
waits_5 : (b₅ b₆ x y : Bool) → cond (b₅ || b₆) x y ≡ true → b₅ ≡ true → x ≡ true
waits_5 true b₆ x y e q = e
waits_5 false b₆ x y e q = never q

pub received_held : (m : Modem) → modem_fits_of m ≡ true → Held m → (f : Fields) → identifier_fits_of m f ≡ true → Held (received m f).modem
unfolding received identifier_fits_of next_in tek_transitions
received_held m fits h f answers = go (eqb f.code 5) refl
  where
    i : ℕ
    i = slot_of_said_of m f.said

    others : Progress
    others =
        cond (eqb f.code 6) (rejected m f.error)
        (cond (eqb f.code 8) (deliver_reply_of (starting m) i 8 f.older f.newer)
        (cond (eqb f.code 9) (deliver (starting m) i 9)
        (cond (eqb f.code 10) (invalidated m f.identifier)
        (deliver (starting m) i 5))))

    go : (b : Bool) → eqb f.code 5 ≡ b → Held (cond b (replied m f) others).modem
    go true e =
        let waits = waits_5 (eqb f.code 5) (eqb f.code 6) (auth_waits m f.identifier) _ answers e in
        replied_held m f (both (eqb m.authorization.state B || eqb m.authorization.state D) (eqb m.authorization.identifier f.identifier) waits).0
    go false e =
        either (λ w. Held w.modem) (eqb f.code 6) _ _ (rejected_held m fits h f.error)
        (either (λ w. Held w.modem) (eqb f.code 8) _ _ (reply_held (starting m) i 8 f.older f.newer refl h)
        (either (λ w. Held w.modem) (eqb f.code 9) _ _ (deliver_held (starting m) i 9 refl h)
        (either (λ w. Held w.modem) (eqb f.code 10) _ _ (invalidated_held m fits h f.identifier) (deliver_held (starting m) i 5 refl h))))

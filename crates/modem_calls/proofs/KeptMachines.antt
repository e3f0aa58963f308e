-- A step of either machine, and a later clock, keep the machine within its limits.
use mathlib.Core.Path.{◌≡◌, refl, sym, ◌∙◌, subst}
use mathlib.Core.Bool.{Bool, true, false, ◌&&◌, ◌||◌, cond, not, beq}
use mathlib.Core.Logic.{◌⊎◌, inl, inr}
use mathlib.Core.List.{List, [], ◌∷◌}
use Prim.Native.Nat.{ℕ, zero, suc, ◌+◌, ◌-◌, ◌≤◌}
use native.Mathlib.Omega.{arith}
use lib.Dec.{ltb, leb, eqb}
use borrow.Author.Tests.{leb-true, le-leb, eqb-true, eq-eqb}
use Rattle.questions.specs.declared.settings.Waits.{Waits}
use Rattle.key_traffic.specs.Suites.{width_of}
use Rattle.key_traffic.specs.Octets.{all_zero}
use Rattle.key_traffic.specs.Traffic.{key_fits_of, follows, pair_fits_of}
use Rattle.questions.proofs.TestLaws.{both}
use Rattle.message_rules.specs.declared.fields.Params.{Params}
use Rattle.message_rules.proofs.HoldsLaws.{never}
use Rattle.modem_authorization.specs.declared.authorization.Authorization.{Authorization}
use Rattle.modem_authorization.specs.declared.authorization.AuthContext.{AuthContext}
use Rattle.modem_tek.specs.declared.parts.Pair.{Pair}
use Rattle.modem_tek.specs.declared.tek.Tek.{Tek}
use Rattle.modem_tek.specs.declared.tek.TekContext.{TekContext}
use Rattle.modem_transitions.specs.declared.timer.Timer.{Timer}
use Rattle.modem_transitions.specs.Transitions.{Transition, A, B, C, D, E, F, blank, next_in, authorization_transitions, tek_transitions, authorization_next_of, tek_next_of}
use Rattle.modem_transitions.specs.Timers.{off, set_at}
use Rattle.modem_tek.specs.TekParts.{no_pair_of, pair_of}
use Rattle.modem_tek.specs.Tek.{pair_after_of, tek_timer, tek_moved, tek_stays, tek_step_of}
use Rattle.modem_authorization.specs.Authorization.{is_passive_of, auth_timer, auth_moved, auth_stays, auth_step_of, AuthReady}
use Rattle.modem_limits.specs.Limits.{timer_fits_of, key_zero_of, authorization_fits_of, pair_held_fits_of, longest_wait_of, tek_fits_of}
use Rattle.modem_limits.proofs.LimitsLaws.{tek_in, tek_by, auth_in, auth_by}

-- ---- what holds of every transition of a matrix holds of every step that is no blank
abbrev pub every : (ℕ → ℕ → ℕ → Bool) → List Transition → Bool
every P [] = true
every P (t ∷ ts) = P t.event t.from t.to && every P ts

pub next_good : (P : ℕ → ℕ → ℕ → Bool) (ts : List Transition) → every P ts ≡ true → (event from : ℕ)
    → (next_in ts event from ≡ blank) ⊎ (P event from (next_in ts event from) ≡ true)
unfolding next_in
next_good P [] all event from = inl refl
next_good P (t ∷ ts) all event from =
    let h = both (P t.event t.from t.to) (every P ts) all in
    go (eqb t.event event) refl (eqb t.from from) refl h.0 (next_good P ts h.1 event from)
  where
    go : (a : Bool) → eqb t.event event ≡ a → (b : Bool) → eqb t.from from ≡ b → P t.event t.from t.to ≡ true
        → (next_in ts event from ≡ blank) ⊎ (P event from (next_in ts event from) ≡ true)
        → (cond (a && b) t.to (next_in ts event from) ≡ blank) ⊎ (P event from (cond (a && b) t.to (next_in ts event from)) ≡ true)
    go true ea true eb p r =
        inr (subst (λ (n : ℕ). P n from t.to ≡ true) (eqb-true t.event event ea)
        (subst (λ (n : ℕ). P t.event n t.to ≡ true) (eqb-true t.from from eb) p))
    go true ea false eb p r = r
    go false ea b eb p r = r

-- A TEK transition: into A to F; events 1, 5 and 9 leave no key, event 8 makes a pair in D, the others keep what is held; only
-- Authorized leaves A
abbrev keyed : ℕ → ℕ → ℕ → Bool
keyed event from to =
    cond (eqb event 1 || eqb event 5 || eqb event 9) (not (leb D to))
    (cond (eqb event 8) (leb D to)
    (beq (leb D from) (leb D to)))

abbrev tek_row : ℕ → ℕ → ℕ → Bool
tek_row event from to = leb to 5 && keyed event from to && (not (eqb from A) || eqb event 2)

tek_rows : every tek_row tek_transitions ≡ true
unfolding tek_transitions
tek_rows = refl

-- An authorization transition: into A to F; event 7 in D stays in D
abbrev auth_row : ℕ → ℕ → ℕ → Bool
auth_row event from to = leb to 5 && (not (is_passive_of event from) || eqb to D)

auth_rows : every auth_row authorization_transitions ≡ true
unfolding authorization_transitions
auth_rows = refl

-- ---- timers
module _ (clock ahead : ℕ) where
  on_fits : (at : ℕ) → at ≤ clock + ahead → timer_fits_of true clock ahead (set_at at) ≡ true
  unfolding timer_fits_of
  on_fits at h = simp (le-leb at (clock + ahead) h)

  off_fits : timer_fits_of false clock ahead off ≡ true
  unfolding timer_fits_of
  off_fits = refl

  pub timer_later : (must : Bool) (t : ℕ) (x : Timer) → clock ≤ t → timer_fits_of must clock ahead x ≡ true → timer_fits_of must t ahead x ≡ true
  unfolding timer_fits_of
  timer_later true t x later e =
      let h = both (eqb x.on 1) (leb x.at (clock + ahead)) e in
      simp (h.0, le-leb x.at (t + ahead) (omega (arith, leb-true x.at (clock + ahead) h.1)))
  timer_later false t x later e = e

-- ---- pairs
pub pair_later : (must : Bool) (w clock t : ℕ) (p : Pair) → clock ≤ t → pair_held_fits_of must w clock p ≡ true → pair_held_fits_of must w t p ≡ true
unfolding pair_held_fits_of pair_fits_of
pair_later true w clock t p later e =
    let h = both (eqb p.held 1) (pair_fits_of w clock p.older p.newer) e in
    let s₄ = both (key_fits_of w p.older && key_fits_of w p.newer && follows p.older p.newer && ltb p.older.deadline p.newer.deadline) (leb p.newer.deadline (clock + 604800)) h.1 in
    simp (h.0, s₄.0, le-leb p.newer.deadline (t + 604800) (omega (arith, leb-true p.newer.deadline (clock + 604800) s₄.1)))
pair_later false w clock t p later e = e

no_pair_fits : (w clock : ℕ) → pair_held_fits_of false w clock no_pair_of ≡ true
unfolding pair_held_fits_of key_zero_of all_zero
no_pair_fits w clock = refl

-- ---- a TEK machine
pub tek_later : (w : Waits) (clock t : ℕ) (x : Tek) → clock ≤ t → tek_fits_of w clock x ≡ true → tek_fits_of w t x ≡ true
tek_later w clock t x later e =
    let l = tek_in w clock x e in
    tek_by w t x
    (record {
      said = l.said;
      suite = l.suite;
      state = l.state;
      timer = timer_later clock (longest_wait_of w x.state) (eqb x.state B || eqb x.state D || eqb x.state E) t x.timer later l.timer;
      pair = pair_later (leb D x.state) (width_of x.suite) clock t x.pair later l.pair;
    })

module _ (w : Waits) (t : Tek) (event : ℕ) (x : TekContext) (older newer : Params) where
  timer_entered : (to : ℕ) → x.operational ≡ w.operational → x.rekey ≡ w.rekey → newer.life ≤ 604800
      → timer_fits_of (eqb to B || eqb to D || eqb to E) x.clock (longest_wait_of w to) (tek_timer to x newer) ≡ true
  unfolding longest_wait_of tek_timer
  timer_entered to o r short = go (eqb to B) (eqb to D) (eqb to E)
    where
      go : (b d e : Bool) → timer_fits_of (b || d || e) x.clock (cond b w.operational (cond e w.rekey 604800))
          (cond b (set_at (x.clock + x.operational)) (cond e (set_at (x.clock + x.rekey)) (cond d (set_at (x.clock + (newer.life - x.grace))) off))) ≡ true
      go true d e = on_fits x.clock w.operational (x.clock + x.operational) (omega arith)
      go false true true = on_fits x.clock w.rekey (x.clock + x.rekey) (omega arith)
      go false true false = on_fits x.clock 604800 (x.clock + (newer.life - x.grace)) (omega arith)
      go false false true = on_fits x.clock w.rekey (x.clock + x.rekey) (omega arith)
      go false false false = off_fits x.clock 604800

  pair_entered : (to : ℕ) → keyed event t.state to ≡ true → pair_held_fits_of (leb D t.state) (width_of t.suite) x.clock t.pair ≡ true
      → (eqb event 8 ≡ true → pair_held_fits_of true (width_of t.suite) x.clock (pair_of x.clock older newer) ≡ true)
      → pair_held_fits_of (leb D to) (width_of t.suite) x.clock (pair_after_of event t x.clock older newer) ≡ true
  unfolding pair_after_of
  pair_entered to k old new = go (eqb event 1 || eqb event 5 || eqb event 9) (eqb event 8) refl (leb D t.state) (leb D to) k old
    where
      go : (drop : Bool) (store : Bool) → eqb event 8 ≡ store → (from to : Bool)
          → cond drop (not to) (cond store to (beq from to)) ≡ true
          → pair_held_fits_of from (width_of t.suite) x.clock t.pair ≡ true
          → pair_held_fits_of to (width_of t.suite) x.clock (cond drop no_pair_of (cond store (pair_of x.clock older newer) t.pair)) ≡ true
      go true store e from true k old = never k
      go true store e from false k old = no_pair_fits (width_of t.suite) x.clock
      go false true e from true k old = new e
      go false true e from false k old = never k
      go false false e true true k old = old
      go false false e true false k old = never k
      go false false e false true k old = never k
      go false false e false false k old = old

  pub step_fits : x.operational ≡ w.operational → x.rekey ≡ w.rekey → newer.life ≤ 604800
      → (eqb event 8 ≡ true → pair_held_fits_of true (width_of t.suite) x.clock (pair_of x.clock older newer) ≡ true)
      → tek_fits_of w x.clock t ≡ true → tek_fits_of w x.clock (tek_step_of t event x older newer).machine ≡ true
  unfolding tek_step_of tek_moved
  step_fits o r short new e = go (eqb to blank) refl (next_good tek_row tek_transitions tek_rows event t.state)
    where
      to : ℕ
      to = tek_next_of event t.state

      moved : leb to 5 && keyed event t.state to && (not (eqb t.state A) || eqb event 2) ≡ true
          → tek_fits_of w x.clock (tek_moved event to t x older newer).machine ≡ true
      moved row =
          let l = tek_in w x.clock t e in
          let h₂ = both (leb to 5 && keyed event t.state to) (not (eqb t.state A) || eqb event 2) row in
          let h₁ = both (leb to 5) (keyed event t.state to) h₂.0 in
          tek_by w x.clock (tek_moved event to t x older newer).machine
          (record {
            said = l.said;
            suite = l.suite;
            state = leb-true to 5 h₁.0;
            timer = timer_entered to o r short;
            pair = pair_entered to h₁.1 l.pair new;
          })

      go : (b : Bool) → eqb to blank ≡ b → (to ≡ blank) ⊎ (tek_row event t.state to ≡ true)
          → tek_fits_of w x.clock (cond b (tek_stays t x) (tek_moved event to t x older newer)).machine ≡ true
      go true q h = e
      go false q (inl h) = let z : true ≡ false = sym (eq-eqb to blank h) ∙ q in never (sym z)
      go false q (inr h) = moved h

  -- a machine in A stays as it is, but by event 2
  pub step_stays : t.state ≡ 0 → eqb event 2 ≡ false → (tek_step_of t event x older newer).machine ≡ t
  unfolding tek_step_of
  step_stays s two = go (next_good tek_row tek_transitions tek_rows event t.state)
    where
      to : ℕ
      to = tek_next_of event t.state

      go : (to ≡ blank) ⊎ (tek_row event t.state to ≡ true) → (cond (eqb to blank) (tek_stays t x) (tek_moved event to t x older newer)).machine ≡ t
      go (inl h) = simp (eq-eqb to blank h)
      go (inr h) = never (rw (eq-eqb t.state A s, two) at (both (leb to 5 && keyed event t.state to) (not (eqb t.state A) || eqb event 2) h).1)

-- ---- the authorization machine
pub auth_later : (clock t : ℕ) (a : Authorization) → clock ≤ t → authorization_fits_of clock a ≡ true → authorization_fits_of t a ≡ true
auth_later clock t a later e =
    let l = auth_in clock a e in
    auth_by t a
    (record { state = l.state; ak = l.ak; timer = timer_later clock 12096000 (not (eqb a.state A || eqb a.state F)) t a.timer later l.timer })

by_state : (P : ℕ → Type 0) → P A → P B → P C → P D → P E → P F → (n : ℕ) → n ≤ 5 → P n
by_state P a b c d e f zero h = a
by_state P a b c d e f (suc zero) h = b
by_state P a b c d e f (suc (suc zero)) h = c
by_state P a b c d e f (suc (suc (suc zero))) h = d
by_state P a b c d e f (suc (suc (suc (suc zero)))) h = e
by_state P a b c d e f (suc (suc (suc (suc (suc zero))))) h = f
by_state P a b c d e f (suc (suc (suc (suc (suc (suc n)))))) h = absurd (omega arith)

module _ (a : Authorization) (event : ℕ) (x : AuthContext) (ready : AuthReady x) where
  abbrev entered : ℕ → Timer
  entered to =
      cond (eqb to B) (set_at (x.clock + x.authorize))
      (cond (eqb to D) (set_at (x.clock + x.reauthorize))
      (cond (eqb to E) (set_at (x.clock + x.reject))
      (cond (eqb to C) (set_at (x.clock + (x.life - x.grace)))
      off)))

  entered_fits : (to : ℕ) → to ≤ 5 → timer_fits_of (not (eqb to A || eqb to F)) x.clock 12096000 (entered to) ≡ true
  entered_fits =
      by_state (λ to. timer_fits_of (not (eqb to A || eqb to F)) x.clock 12096000 (entered to) ≡ true)
      (off_fits x.clock 12096000)
      (on_fits x.clock 12096000 (x.clock + x.authorize) (omega (arith, ready.authorize_small)))
      (on_fits x.clock 12096000 (x.clock + (x.life - x.grace)) (omega (arith, ready.life_small)))
      (on_fits x.clock 12096000 (x.clock + x.reauthorize) (omega (arith, ready.reauthorize_small)))
      (on_fits x.clock 12096000 (x.clock + x.reject) (omega (arith, ready.reject_small)))
      (off_fits x.clock 12096000)

  timer_kept : (to : ℕ) → to ≤ 5 → not (is_passive_of event a.state) || eqb to D ≡ true
      → timer_fits_of (not (eqb a.state A || eqb a.state F)) x.clock 12096000 a.timer ≡ true
      → timer_fits_of (not (eqb to A || eqb to F)) x.clock 12096000 (auth_timer event to a x) ≡ true
  unfolding auth_timer
  timer_kept to small row old = go (eqb event 7) (eqb a.state D) refl row
    where
      go : (b d : Bool) → eqb a.state D ≡ d → not (b && d) || eqb to D ≡ true
          → timer_fits_of (not (eqb to A || eqb to F)) x.clock 12096000 (cond (b && d) a.timer (entered to)) ≡ true
      go true true q row = rw (eqb-true to D row) (rw (eqb-true a.state D q) at old)
      go true false q row = entered_fits to small
      go false d q row = entered_fits to small

  pub auth_fits : x.ak.0 ≤ 15 → authorization_fits_of x.clock a ≡ true → authorization_fits_of x.clock (auth_step_of a event x).machine ≡ true
  unfolding auth_step_of auth_moved
  auth_fits low e = go (eqb to blank) refl (next_good auth_row authorization_transitions auth_rows event a.state)
    where
      to : ℕ
      to = authorization_next_of event a.state

      moved_ak : (b : Bool) → a.ak.0 ≤ 15 → (cond b x.ak a.ak).0 ≤ 15
      moved_ak true old = low
      moved_ak false old = old

      moved : auth_row event a.state to ≡ true → authorization_fits_of x.clock (auth_moved event to a x).machine ≡ true
      moved row =
          let l = auth_in x.clock a e in
          let h = both (leb to 5) (not (is_passive_of event a.state) || eqb to D) row in
          auth_by x.clock (auth_moved event to a x).machine
          (record {
            state = leb-true to 5 h.0;
            ak = moved_ak (eqb event 4) l.ak;
            timer = timer_kept to (leb-true to 5 h.0) h.1 l.timer;
          })

      go : (b : Bool) → eqb to blank ≡ b → (to ≡ blank) ⊎ (auth_row event a.state to ≡ true)
          → authorization_fits_of x.clock (cond b (auth_stays a x) (auth_moved event to a x)).machine ≡ true
      go true q h = e
      go false q (inl h) = let z : true ≡ false = sym (eq-eqb to blank h) ∙ q in never (sym z)
      go false q (inr h) = moved h

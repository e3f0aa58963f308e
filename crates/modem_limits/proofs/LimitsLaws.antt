-- The limits of the modem's state as facts, one by one, and back.
use mathlib.Core.Path.{◌≡◌, refl}
use mathlib.Core.Bool.{Bool, true, false, ◌||◌, cond, not}
use mathlib.Core.List.{List, [], ◌∷◌}
use Prim.Native.Nat.{ℕ, zero, suc, ◌≤◌, ◌<◌}
use native.Mathlib.Omega.{arith}
use lib.Dec.{ltb, leb, eqb}
use lib.ListN.{length, get_or, take, get_or-eq_default}
use borrow.Author.Tests.{leb-true, leb-false, le-leb, lt-ltb, eqb-true, eqb-false, ne_eqb, not-true}
use Rattle.questions.specs.declared.settings.Waits.{Waits}
use Rattle.questions.specs.Settings.{settings_fit_of}
use Rattle.key_traffic.specs.Suites.{suite_known_of, width_of}
use Rattle.questions.proofs.TestLaws.{both}
use Rattle.message_rules.specs.Messages.{is_none, different}
use Rattle.message_rules.proofs.HoldsLaws.{never}
use Rattle.modem_authorization.specs.declared.authorization.Authorization.{Authorization}
use Rattle.modem_tek.specs.declared.tek.Tek.{Tek}
use Rattle.modem_transitions.specs.Transitions.{A, B, D, E, F}
use Rattle.modem_steps.specs.declared.state.Modem.{Modem}
use Rattle.modem_steps.specs.State.{past_tek}
use Rattle.modem_limits.specs.Limits.{timer_fits_of, authorization_fits_of, pair_held_fits_of, longest_wait_of, tek_fits_of, tek_zero_of, slot_fits_of, saids_of_teks, modem_fits_of}

-- ---- the SAIDs of the first n slots differ
abbrev pub Apart : ℕ → List Tek → Type 0
Apart n l = (i j : ℕ) → i < j → j < n → (get_or l i past_tek).said ≡ (get_or l j past_tek).said → ⊥

none_apart : (x n : ℕ) (l : List Tek) → n ≤ length l → is_none x (saids_of_teks (take n l)) ≡ true → (j : ℕ) → j < n → x ≡ (get_or l j past_tek).said → ⊥
unfolding is_none saids_of_teks
none_apart x zero l inside e j h q = omega arith
none_apart x (suc n) [] inside e j h q = omega arith
none_apart x (suc n) (t ∷ l) inside e zero h q =
    eqb-false x t.said (not-true (eqb x t.said) (both (not (eqb x t.said)) (is_none x (saids_of_teks (take n l))) e).0) q
none_apart x (suc n) (t ∷ l) inside e (suc j) h q =
    none_apart x n l (omega arith) (both (not (eqb x t.said)) (is_none x (saids_of_teks (take n l))) e).1 j (omega arith) q

pub different_apart : (n : ℕ) (l : List Tek) → n ≤ length l → different (saids_of_teks (take n l)) ≡ true → Apart n l
unfolding different saids_of_teks
different_apart zero l inside e i j less h q = omega arith
different_apart (suc n) [] inside e i j less h q = omega arith
different_apart (suc n) (t ∷ l) inside e i zero less h q = omega arith
different_apart (suc n) (t ∷ l) inside e zero (suc j) less h q =
    none_apart t.said n l (omega arith) (both (is_none t.said (saids_of_teks (take n l))) (different (saids_of_teks (take n l))) e).0 j (omega arith) q
different_apart (suc n) (t ∷ l) inside e (suc i) (suc j) less h q =
    different_apart n l (omega arith) (both (is_none t.said (saids_of_teks (take n l))) (different (saids_of_teks (take n l))) e).1 i j (omega arith) (omega arith) q

apart_none : (x n : ℕ) (l : List Tek) → ((j : ℕ) → j < n → x ≡ (get_or l j past_tek).said → ⊥) → is_none x (saids_of_teks (take n l)) ≡ true
unfolding is_none saids_of_teks
apart_none x zero l a = refl
apart_none x (suc n) [] a = refl
apart_none x (suc n) (t ∷ l) a = rw (ne_eqb x t.said (a 0 (omega arith))) (apart_none x n l (λ j h. a (suc j) (omega arith)))

pub apart_different : (n : ℕ) (l : List Tek) → Apart n l → different (saids_of_teks (take n l)) ≡ true
unfolding different saids_of_teks
apart_different zero l a = refl
apart_different (suc n) [] a = refl
apart_different (suc n) (t ∷ l) a =
    rw (apart_none t.said n l (λ j h. a 0 (suc j) (omega arith) (omega arith)))
    (apart_different n l (λ i j less h. a (suc i) (suc j) (omega arith) (omega arith)))

-- ---- what holds of four slots
pub by_four : (P : ℕ → Type 0) → P 0 → P 1 → P 2 → P 3 → (i : ℕ) → i < 4 → P i
by_four P p₀ p₁ p₂ p₃ zero h = p₀
by_four P p₀ p₁ p₂ p₃ (suc zero) h = p₁
by_four P p₀ p₁ p₂ p₃ (suc (suc zero)) h = p₂
by_four P p₀ p₁ p₂ p₃ (suc (suc (suc zero))) h = p₃
by_four P p₀ p₁ p₂ p₃ (suc (suc (suc (suc i)))) h = absurd (omega arith)

-- A slot in use and one that is not
abbrev pub SlotIn : Waits → ℕ → ℕ → List Tek → ℕ → Type 0
SlotIn w clock used l i = cond (ltb i used) (tek_fits_of w clock (get_or l i past_tek)) (tek_zero_of (get_or l i past_tek)) ≡ true

-- ---- the limits as facts
pub record InLimits (m : Modem) : Type 0 where
  pub settings : settings_fit_of m.settings ≡ true
  pub clock : m.clock ≤ 1000000000000
  pub address : ltb m.address 281474976710656 ≡ true
  pub said : m.said ≤ 16383
  pub authorization : authorization_fits_of m.clock m.authorization ≡ true
  pub used : m.used ≤ 4
  pub slots : (i : ℕ) → i < 4 → SlotIn m.settings.waits m.clock m.used m.teks i
  pub apart : Apart m.used m.teks

-- a slot in use is one of the list
pub used_held : (m : Modem) → m.used ≤ 4 → ((i : ℕ) → i < 4 → SlotIn m.settings.waits m.clock m.used m.teks i) → m.used ≤ length m.teks
unfolding tek_fits_of
used_held m four slots = go (leb m.used (length m.teks)) refl
  where
    go : (b : Bool) → leb m.used (length m.teks) ≡ b → m.used ≤ length m.teks
    go true e = leb-true m.used (length m.teks) e
    go false e =
        let less : length m.teks < m.used = leb-false m.used (length m.teks) e in
        let here = slots (length m.teks) (omega arith) in
        let over : length m.teks ≤ length m.teks = omega arith in
        never (rw (lt-ltb (length m.teks) m.used less, get_or-eq_default m.teks past_tek over) at here)

pub limits_of : (m : Modem) → modem_fits_of m ≡ true → InLimits m
unfolding modem_fits_of slot_fits_of
limits_of m e =
    let s₁₀ = both _ _ e in
    let s₉ = both _ _ s₁₀.0 in
    let s₈ = both _ _ s₉.0 in
    let s₇ = both _ _ s₈.0 in
    let s₆ = both _ _ s₇.0 in
    let s₅ = both _ _ s₆.0 in
    let s₄ = both _ _ s₅.0 in
    let s₃ = both _ _ s₄.0 in
    let s₂ = both _ _ s₃.0 in
    let s₁ = both _ _ s₂.0 in
    let few : m.used ≤ 4 = leb-true m.used 4 s₅.1 in
    let slots = by_four (SlotIn m.settings.waits m.clock m.used m.teks) s₆.1 s₇.1 s₈.1 s₉.1 in
    record {
      settings = s₁.0;
      clock = leb-true m.clock 1000000000000 s₁.1;
      address = s₂.1;
      said = leb-true m.said 16383 s₃.1;
      authorization = s₄.1;
      used = few;
      slots = slots;
      apart = different_apart m.used m.teks (used_held m few slots) s₁₀.1;
    }

pub fits_by : (m : Modem) → InLimits m → modem_fits_of m ≡ true
unfolding modem_fits_of slot_fits_of
fits_by m l =
    simp (
      l.settings,
      le-leb m.clock 1000000000000 l.clock,
      l.address,
      le-leb m.said 16383 l.said,
      l.authorization,
      le-leb m.used 4 l.used,
      l.slots 0 (omega arith),
      l.slots 1 (omega arith),
      l.slots 2 (omega arith),
      l.slots 3 (omega arith),
      apart_different m.used m.teks l.apart,
    )

-- ---- a slot in use
pub record TekIn (w : Waits) (clock : ℕ) (t : Tek) : Type 0 where
  pub said : t.said ≤ 16383
  pub suite : suite_known_of t.suite ≡ true
  pub state : t.state ≤ 5
  pub timer : timer_fits_of (eqb t.state B || eqb t.state D || eqb t.state E) clock (longest_wait_of w t.state) t.timer ≡ true
  pub pair : pair_held_fits_of (leb D t.state) (width_of t.suite) clock t.pair ≡ true

pub tek_in : (w : Waits) (clock : ℕ) (t : Tek) → tek_fits_of w clock t ≡ true → TekIn w clock t
unfolding tek_fits_of
tek_in w clock t e =
    let s₄ = both _ _ e in
    let s₃ = both _ _ s₄.0 in
    let s₂ = both _ _ s₃.0 in
    let s₁ = both _ _ s₂.0 in
    record { said = leb-true t.said 16383 s₁.0; suite = s₁.1; state = leb-true t.state 5 s₂.1; timer = s₃.1; pair = s₄.1 }

pub tek_by : (w : Waits) (clock : ℕ) (t : Tek) → TekIn w clock t → tek_fits_of w clock t ≡ true
unfolding tek_fits_of
tek_by w clock t l =
    simp (le-leb t.said 16383 l.said, l.suite, le-leb t.state 5 l.state, l.timer, l.pair)

-- ---- one that is not in use: its SAID is 0 and it is in A
pub zero_slot : (t : Tek) → tek_zero_of t ≡ true → (t.said ≡ 0) × (t.state ≡ 0)
unfolding tek_zero_of
zero_slot t e =
    let s₅ = both _ _ e in
    let s₄ = both _ _ s₅.0 in
    let s₃ = both _ _ s₄.0 in
    let s₂ = both _ _ s₃.0 in
    let s₁ = both _ _ s₂.0 in
    (eqb-true t.said 0 s₁.0, eqb-true t.state 0 s₂.1)

pub slot_said : (w : Waits) (clock used : ℕ) (l : List Tek) (i : ℕ) → SlotIn w clock used l i → (get_or l i past_tek).said ≤ 16383
slot_said w clock used l i e = go (ltb i used) e
  where
    go : (b : Bool) → cond b (tek_fits_of w clock (get_or l i past_tek)) (tek_zero_of (get_or l i past_tek)) ≡ true → (get_or l i past_tek).said ≤ 16383
    go true h = (tek_in w clock (get_or l i past_tek) h).said
    go false h = omega (arith, (zero_slot (get_or l i past_tek) h).0)

-- ---- the authorization machine
pub record AuthIn (clock : ℕ) (a : Authorization) : Type 0 where
  pub state : a.state ≤ 5
  pub ak : a.ak.0 ≤ 15
  pub timer : timer_fits_of (not (eqb a.state A || eqb a.state F)) clock 12096000 a.timer ≡ true

pub auth_in : (clock : ℕ) (a : Authorization) → authorization_fits_of clock a ≡ true → AuthIn clock a
unfolding authorization_fits_of
auth_in clock a e =
    let s₂ = both _ _ e in
    let s₁ = both _ _ s₂.0 in
    record { state = leb-true a.state 5 s₁.0; ak = leb-true a.ak.0 15 s₁.1; timer = s₂.1 }

pub auth_by : (clock : ℕ) (a : Authorization) → AuthIn clock a → authorization_fits_of clock a ≡ true
unfolding authorization_fits_of
auth_by clock a l = simp (le-leb a.state 5 l.state, le-leb a.ak.0 15 l.ak, l.timer)

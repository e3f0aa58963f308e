-- A matrix and its list of transitions: the rule is proved over the whole table by one test that antt computes.
use Rattle.std.proofs.Common.{◌≡◌, ℕ, zero, suc, ◌+◌, ◌-◌, ◌<◌, ◌≤◌, Bool, true, false, ◌&&◌, eqb, leb, List, [], ◌∷◌, length, get_or, cond, ltb, refl, sym, ap, ◌∙◌, ⊎_elim, le_of_suc-le-suc, not-suc-le-zero, eq-or-lt_of_le, arith, ne_eqb, eqb-true, leb-true}
use mathlib.Core.Bool.{and-false}
use Rattle.questions.proofs.TestLaws.{both}
use borrow.Author.Tests.{leb-false, ltb-true, ltb-false}
use Rattle.modem_transitions.specs.Transitions.{Transition, blank, next_in, entry_of}

-- ---- a test that passes at each number below n
abbrev pub all : (ℕ → Bool) → ℕ → Bool
all f zero = true
all f (suc n) = all f n && f n

all_at : (f : ℕ → Bool) (n : ℕ) → all f n ≡ true → (k : ℕ) → k < n → f k ≡ true
all_at f zero t k h = absurd (not-suc-le-zero h)
all_at f (suc n) t k h =
    ⊎_elim (λ (e : k ≡ n). ap f e ∙ (both (all f n) (f n) t).1) (λ (l : k < n). all_at f n (both (all f n) (f n) t).0 k l)
    (eq-or-lt_of_le (le_of_suc-le-suc h))

-- ---- every entry of the table, its row counted from 1, is what the rule says
abbrev pub agrees : (ℕ → ℕ → ℕ) → List (List ℕ) → ℕ → ℕ → Bool
agrees rule table r c = eqb (get_or (get_or table r []) c 0) (rule (r + 1) c)

abbrev pub ruled : (ℕ → ℕ → ℕ) → List (List ℕ) → ℕ → ℕ → Bool
ruled rule table rows columns = all (λ (r : ℕ). all (agrees rule table r) columns) rows

pub rule_at : (rule : ℕ → ℕ → ℕ) (table : List (List ℕ)) (rows columns : ℕ) → ruled rule table rows columns ≡ true
    → (r c : ℕ) → 1 ≤ r → r ≤ rows → c < columns → get_or (get_or table (r - 1) []) c 0 ≡ rule r c
rule_at rule table rows columns t r c low high small =
    let back : r - 1 + 1 ≡ r = omega arith in
    let row = all_at (λ (k : ℕ). all (agrees rule table k) columns) rows t (r - 1) (omega arith) in
    eqb-true (get_or (get_or table (r - 1) []) c 0) (rule (r - 1 + 1) c) (all_at (agrees rule table (r - 1)) columns row c small)
    ∙ ap (λ (n : ℕ). rule n c) back

-- ---- what is no event or no state has no transition
abbrev within : ℕ → Transition → Bool
within events t = leb 1 t.event && leb t.event events && leb t.from 5

abbrev pub all_within : ℕ → List Transition → Bool
all_within events [] = true
all_within events (t ∷ ts) = within events t && all_within events ts

module _ (events event state : ℕ) where
  none_of : (ts : List Transition) → all_within events ts ≡ true → ((t : Transition) → within events t ≡ true → (eqb t.event event && eqb t.from state) ≡ false)
      → next_in ts event state ≡ blank
  unfolding next_in
  none_of [] all_in no_one = refl
  none_of (t ∷ ts) all_in no_one =
      let here = both (within events t) (all_within events ts) all_in in
      rw (no_one t here.0) (none_of ts here.1 no_one)

  pub no_event : (ts : List Transition) → all_within events ts ≡ true → event < 1 → next_in ts event state ≡ blank
  no_event ts all_in low =
      none_of ts all_in
      (λ t w.
      let parts = both (leb 1 t.event && leb t.event events) (leb t.from 5) w in
      let first = both (leb 1 t.event) (leb t.event events) parts.0 in
      rw (ne_eqb t.event event (λ e. omega (arith, e, low, leb-true 1 t.event first.0))))

  pub past_event : (ts : List Transition) → all_within events ts ≡ true → events < event → next_in ts event state ≡ blank
  past_event ts all_in high =
      none_of ts all_in
      (λ t w.
      let parts = both (leb 1 t.event && leb t.event events) (leb t.from 5) w in
      let first = both (leb 1 t.event) (leb t.event events) parts.0 in
      rw (ne_eqb t.event event (λ e. omega (arith, e, high, leb-true t.event events first.1))))

  pub past_state : (ts : List Transition) → all_within events ts ≡ true → 5 < state → next_in ts event state ≡ blank
  past_state ts all_in high =
      none_of ts all_in
      (λ t w.
      let parts = both (leb 1 t.event && leb t.event events) (leb t.from 5) w in
      rw (ne_eqb t.from state (λ e. omega (arith, e, high, leb-true t.from 5 parts.1)), and-false))

-- ---- a table that agrees with its list has its entries
pub entry_is : (ts : List Transition) (table : List (List ℕ)) → all_within (length table) ts ≡ true → ruled (next_in ts) table (length table) 6 ≡ true
    → (event state : ℕ) → entry_of table event state ≡ next_in ts event state
entry_is ts table inside whole event state = go (leb 1 event) (leb event (length table)) (ltb state 6) refl refl refl
  where
    go : (a b c : Bool) → leb 1 event ≡ a → leb event (length table) ≡ b → ltb state 6 ≡ c
        → cond (a && b && c) (get_or (get_or table (event - 1) []) state 0) blank ≡ next_in ts event state
    go false b c ea eb ec = sym (no_event (length table) event state ts inside (omega (arith, leb-false 1 event ea)))
    go true false c ea eb ec = sym (past_event (length table) event state ts inside (omega (arith, leb-false event (length table) eb)))
    go true true false ea eb ec = sym (past_state (length table) event state ts inside (omega (arith, ltb-false state 6 ec)))
    go true true true ea eb ec = rule_at (next_in ts) table (length table) 6 whole event state (leb-true 1 event ea) (leb-true event (length table) eb) (ltb-true state 6 ec)

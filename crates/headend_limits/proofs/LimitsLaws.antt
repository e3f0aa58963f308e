-- The limits of the head-end's state as facts, one by one, and back; that granting and the clock keep an entry's keys within them.
use mathlib.Core.Path.{◌≡◌, refl, subst}
use mathlib.Core.Bool.{Bool, true, false, cond, ◌&&◌, ◌||◌}
use mathlib.Core.Logic.{◌⊎◌, inl, inr}
use mathlib.Core.List.{List, [], ◌∷◌, ◌++◌}
use Prim.Native.Nat.{ℕ, zero, suc, ◌+◌, ◌*◌, ◌%◌, ◌≤◌, ◌<◌}
use native.Mathlib.Omega.{arith}
use lib.Dec.{leb, ltb, eqb}
use lib.ListN.{length, get_or}
use borrow.Author.Tests.{leb-true, le-leb, ltb-true, lt-ltb, le-ltb, eqb-true}
use Rattle.questions.specs.Settings.{life_fits_of, tek_times_fit_of, ak_times_fit_of, settings_fit_of}
use Rattle.questions.proofs.TestLaws.{both, either}
use Rattle.questions.proofs.ListLaws.{IfLt, if_lt}
use Rattle.message_rules.proofs.HoldsLaws.{never}
use Rattle.headend_state.specs.declared.state.AuthKeys.{AuthKeys}
use Rattle.headend_state.specs.declared.state.Entry.{Entry}
use Rattle.headend_state.specs.declared.state.HeadEnd.{HeadEnd}
use Rattle.headend_state.specs.declared.entries.Known.{Known}
use Rattle.headend_state.specs.State.{no_entry_of}
use Rattle.headend_state.specs.Authorization.{Countable, newest_number, active_of, keep_if, keys_by_of, keys_for, life_left}
use Rattle.headend_state.specs.Entries.{entries_of, here_or, known_from, known_of}
use Rattle.key_traffic.specs.Addresses.{address_fits_of}
use Rattle.headend_limits.specs.Limits.{listing_fits_of, saids_differ_of, maximum, auth_keys_fit_of, entry_fits_of, all_apart_of, entries_from, head_fits_of}
use Rattle.headend_limits.specs.Search.{half_in_of}
use Rattle.headend_limits.proofs.ListingLaws.{ListingIn, listing_facts}

-- ---- the authorization keys of an entry
pub record KeysIn (life clock : ℕ) (k : AuthKeys) : Type 0 where
  pub number : k.next.0 ≤ 15
  pub older_near : k.older ≤ clock + life
  pub newer_near : k.older ≤ clock → k.newer ≤ clock + life
  pub newer_after : clock < k.older → k.newer ≤ k.older + life
  pub ordered : k.older ≤ k.newer
  pub rising : (k.older < k.newer) ⊎ ((k.older ≡ 0) × (k.newer ≡ 0))

module _ (life clock : ℕ) (k : AuthKeys) where
  abbrev Rising : Type 0
  Rising = (k.older < k.newer) ⊎ ((k.older ≡ 0) × (k.newer ≡ 0))

  rises : (ltb k.older k.newer ≡ true) ⊎ (eqb k.older 0 && eqb k.newer 0 ≡ true) → Rising
  rises (inl e) = inl (ltb-true k.older k.newer e)
  rises (inr e) =
      let h = both (eqb k.older 0) (eqb k.newer 0) e in
      inr (eqb-true k.older 0 h.0, eqb-true k.newer 0 h.1)

  in_order : Rising → k.older ≤ k.newer
  in_order (inl h) = omega arith
  in_order (inr h) = omega (arith, h.0, h.1)

  rising_test : Rising → ltb k.older k.newer || (eqb k.older 0 && eqb k.newer 0) ≡ true
  rising_test (inl h) = simp (lt-ltb k.older k.newer h)
  rising_test (inr h) = rw (h.0, h.1)

  pub keys_fact : auth_keys_fit_of life clock k ≡ true → KeysIn life clock k
  unfolding auth_keys_fit_of
  keys_fact e =
      let s₃ = both _ _ e in
      let s₂ = both _ _ s₃.0 in
      let s₁ = both _ _ s₂.0 in
      let far : k.newer ≤ maximum clock k.older + life = leb-true _ _ s₂.1 in
      let r = rises (either _ _ s₃.1) in
      record {
        number = leb-true _ _ s₁.0;
        older_near = leb-true _ _ s₁.1;
        newer_near = λ past. rw (le-ltb clock k.older past) at far;
        newer_after = λ ahead. rw (lt-ltb clock k.older ahead) at far;
        ordered = in_order r;
        rising = r;
      }

  far_by : KeysIn life clock k → leb k.newer (maximum clock k.older + life) ≡ true
  far_by i = go (ltb clock k.older) (if_lt clock k.older)
    where
      go : (b : Bool) → IfLt clock k.older b → leb k.newer (cond b k.older clock + life) ≡ true
      go true ahead = le-leb k.newer (k.older + life) (i.newer_after ahead)
      go false past = le-leb k.newer (clock + life) (i.newer_near past)

  pub keys_by : KeysIn life clock k → auth_keys_fit_of life clock k ≡ true
  unfolding auth_keys_fit_of
  keys_by i =
      rw (le-leb k.next.0 15 i.number, le-leb k.older (clock + life) i.older_near, far_by i, rising_test i.rising)

  pub newer_far : KeysIn life clock k → k.newer ≤ clock + 2 * life
  newer_far i = go (ltb clock k.older) (if_lt clock k.older)
    where
      go : (b : Bool) → IfLt clock k.older b → k.newer ≤ clock + 2 * life
      go true ahead = omega (arith, i.newer_after ahead, i.older_near)
      go false past = omega (arith, i.newer_near past)

  pub countable : life ≤ 6048000 → clock ≤ 1000000000000 → auth_keys_fit_of life clock k ≡ true → Countable life clock k
  countable short early e =
      let i = keys_fact e in
      record { life_small = short; clock_small = early; ordered = i.ordered; near = newer_far i }

  -- a later clock
  pub later_in : (t : ℕ) → clock ≤ t → KeysIn life clock k → KeysIn life t k
  later_in t on i =
      record {
        number = i.number;
        older_near = omega (arith, i.older_near);
        newer_near = λ past. near past;
        newer_after = λ ahead. i.newer_after (omega arith);
        ordered = i.ordered;
        rising = i.rising;
      }
    where
      near : k.older ≤ t → k.newer ≤ t + life
      near past = go (ltb clock k.older) (if_lt clock k.older)
        where
          go : (b : Bool) → IfLt clock k.older b → k.newer ≤ t + life
          go true ahead = omega (arith, i.newer_after ahead)
          go false gone = omega (arith, i.newer_near gone)

pub later_fits : (life clock t : ℕ) (k : AuthKeys) → clock ≤ t → auth_keys_fit_of life clock k ≡ true → auth_keys_fit_of life t k ≡ true
later_fits life clock t k on e = keys_by life t k (later_in life clock k t on (keys_fact life clock k e))

-- ---- granting: within the limits, and the newest counts
pub record Granted (life clock : ℕ) (g : AuthKeys) : Type 0 where
  pub within : KeysIn life clock g
  pub counts : clock < g.newer

module _ (life clock : ℕ) (k : AuthKeys) (some : 1 ≤ life) (i : KeysIn life clock k) where
  one_more : (deadline : ℕ) → k.newer < deadline → clock < deadline → k.newer ≤ clock + life
      → (k.newer ≤ clock → deadline ≤ clock + life) → (clock < k.newer → deadline ≤ k.newer + life)
      → Granted life clock (record { next = record { 0 = (k.next.0 + 1) % 16 }; older = k.newer; newer = deadline })
  one_more deadline up ahead near past after =
      record {
        within = record { number = omega arith; older_near = near; newer_near = past; newer_after = after; ordered = omega arith; rising = inl up };
        counts = ahead;
      }

  pub granted : Granted life clock (keys_for life clock k)
  unfolding keys_for active_of
  granted = go (ltb clock k.older) (ltb clock k.newer) (if_lt clock k.older) (if_lt clock k.newer)
    where
      go : (a b : Bool) → IfLt clock k.older a → IfLt clock k.newer b
          → Granted life clock (keys_by_of (keep_if a (record { number = record { 0 = (k.next.0 + 14) % 16 }; deadline = k.older }) (keep_if b (record { number = newest_number k; deadline = k.newer }) [])) life clock k)
      go true true ahead after = record { within = i; counts = after }
      go true false ahead over = absurd (omega (arith, i.ordered))
      go false true past after =
          one_more (k.newer + life) (omega arith) (omega arith) (i.newer_near past) (λ h. absurd (omega arith)) (λ h. omega arith)
      go false false past over =
          one_more (clock + life) (omega arith) (omega arith) (omega arith) (λ h. omega arith) (λ h. absurd (omega arith))

module _ (life clock : ℕ) (k : AuthKeys) (some : 1 ≤ life) (e : auth_keys_fit_of life clock k ≡ true) where
  made : Granted life clock (keys_for life clock k)
  made = granted life clock k some (keys_fact life clock k e)

  pub granted_fits : auth_keys_fit_of life clock (keys_for life clock k) ≡ true
  granted_fits = keys_by life clock (keys_for life clock k) made.within

  -- the newest is active, and its life is right
  pub newest_life : (1 ≤ life_left clock (keys_for life clock k).newer) × (life_left clock (keys_for life clock k).newer ≤ 2 * life)
  newest_life = (omega (arith, made.counts), omega (arith, newer_far life clock (keys_for life clock k) made.within))

-- ---- an entry
pub record EntryIn (life clock : ℕ) (e : Entry) : Type 0 where
  pub address : address_fits_of e.address ≡ true
  pub allowed : e.allowed ≤ 1
  pub listing : ListingIn e.listing
  pub listing-fits : listing_fits_of e.listing ≡ true
  pub saids-differ : saids_differ_of e.listing ≡ true
  pub keys-fit : auth_keys_fit_of life clock e.keys ≡ true

pub entry_facts : (life clock : ℕ) (e : Entry) → entry_fits_of life clock e ≡ true → EntryIn life clock e
unfolding entry_fits_of
entry_facts life clock e q =
    let s₄ = both _ _ q in
    let s₃ = both _ _ s₄.0 in
    let s₂ = both _ _ s₃.0 in
    let s₁ = both _ _ s₂.0 in
    record {
      address = s₁.0;
      allowed = leb-true e.allowed 1 s₁.1;
      listing = listing_facts e.listing s₂.1 s₃.1;
      listing-fits = s₂.1;
      saids-differ = s₃.1;
      keys-fit = s₄.1;
    }

-- ---- the state
pub record HeadIn (h : HeadEnd) : Type 0 where
  pub settings : settings_fit_of h.settings ≡ true
  pub clock : h.clock ≤ 1000000000000
  pub modems : h.modems ≤ 16
  pub used : h.used ≤ 64
  pub entries : entries_from h.settings.ak.life h.clock [] (entries_of h) ≡ true
  pub ak_low : 86400 ≤ h.settings.ak.life
  pub ak_high : h.settings.ak.life ≤ 6048000
  pub half_low : 900 ≤ half_in_of h
  pub half_high : half_in_of h ≤ 302400
  pub half_twice : half_in_of h + half_in_of h ≡ h.settings.tek.life

pub head_facts : (h : HeadEnd) → head_fits_of h ≡ true → HeadIn h
unfolding head_fits_of settings_fit_of tek_times_fit_of life_fits_of ak_times_fit_of
head_facts h e =
    let s₄ = both _ _ e in
    let s₃ = both _ _ s₄.0 in
    let s₂ = both _ _ s₃.0 in
    let s₁ = both _ _ s₂.0 in
    let w₂ = both _ _ s₁.0 in
    let w₁ = both _ _ w₂.0 in
    let t₂ = both _ _ w₁.0 in
    let t₁ = both _ _ t₂.0 in
    let l₂ = both _ _ t₁.0 in
    let l₁ = both _ _ l₂.0 in
    let a₃ = both _ _ w₁.1 in
    let a₂ = both _ _ a₃.0 in
    let a₁ = both _ _ a₂.0 in
    let life = h.settings.tek.life in
    let even : life % 2 ≡ 0 = eqb-true _ _ l₁.0 in
    let low : 1800 ≤ life = leb-true _ _ l₁.1 in
    let high : life ≤ 604800 = leb-true _ _ l₂.1 in
    record {
      settings = s₁.0;
      clock = leb-true _ _ s₁.1;
      modems = leb-true _ _ s₂.1;
      used = leb-true _ _ s₃.1;
      entries = s₄.1;
      ak_low = leb-true _ _ a₁.0;
      ak_high = leb-true _ _ a₁.1;
      half_low = omega arith;
      half_high = omega arith;
      half_twice = omega arith;
    }

-- ---- an entry that is found
pub record FoundAt (l : List Entry) (address at : ℕ) (k : Known) : Type 0 where
  pub place : ℕ
  pub moved : k.at ≡ at + place
  pub inside : place < length l
  pub held : get_or l place no_entry_of ≡ k.entry
  pub same : k.entry.address ≡ address

pub found_from : (address at : ℕ) (l : List Entry) → (known_from address at l).is_listed ≡ true → FoundAt l address at (known_from address at l)
unfolding known_from
found_from address at [] e = never e
found_from address at (x ∷ l) e = go (eqb x.address address) refl e (found_from address (suc at) l)
  where
    go : (b : Bool) → eqb x.address address ≡ b → (here_or b at x (known_from address (suc at) l)).is_listed ≡ true
        → ((known_from address (suc at) l).is_listed ≡ true → FoundAt l address (suc at) (known_from address (suc at) l))
        → FoundAt (x ∷ l) address at (here_or b at x (known_from address (suc at) l))
    go true q e ih = record { place = 0; moved = omega arith; inside = omega arith; held = refl; same = eqb-true x.address address q }
    go false q e ih =
        let f = ih e in
        record { place = suc f.place; moved = omega (arith, f.moved); inside = omega (arith, f.inside); held = f.held; same = f.same }

first_of : (a b c : Bool) → a && b && c ≡ true → (a ≡ true) × (c ≡ true)
first_of a b c e = let h = both (a && b) c e in ((both a b h.0).0, h.1)

pub each_fits : (life clock : ℕ) (before l : List Entry) → entries_from life clock before l ≡ true → (i : ℕ) → i < length l → entry_fits_of life clock (get_or l i no_entry_of) ≡ true
unfolding entries_from
each_fits life clock before [] e i h = absurd (omega arith)
each_fits life clock before (x ∷ l) e zero h = (first_of (entry_fits_of life clock x) (all_apart_of x.address x.listing before) (entries_from life clock (before ++ (x ∷ [])) l) e).0
each_fits life clock before (x ∷ l) e (suc i) h =
    each_fits life clock (before ++ (x ∷ [])) l
    (first_of (entry_fits_of life clock x) (all_apart_of x.address x.listing before) (entries_from life clock (before ++ (x ∷ [])) l) e).1
    i (omega arith)

module _ (h : HeadEnd) (address : ℕ) (listed : (known_of h address).is_listed ≡ true) where
  pub known_place : ((known_of h address).at < length (entries_of h))
      × (get_or (entries_of h) (known_of h address).at no_entry_of ≡ (known_of h address).entry)
      × ((known_of h address).entry.address ≡ address)
  known_place =
      let f = found_from address 0 (entries_of h) listed in
      let at : f.place ≡ (known_of h address).at = omega (arith, f.moved) in
      (omega (arith, f.inside), subst (λ (i : ℕ). get_or (entries_of h) i no_entry_of ≡ (known_of h address).entry) at f.held, f.same)

  pub known_in : head_fits_of h ≡ true → entry_fits_of h.settings.ak.life h.clock (known_of h address).entry ≡ true
  known_in e =
      let p = known_place in
      subst (λ (x : Entry). entry_fits_of h.settings.ak.life h.clock x ≡ true) p.1
      (each_fits h.settings.ak.life h.clock [] (entries_of h) (head_facts h e).entries (known_of h address).at p.0)

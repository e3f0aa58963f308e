-- The limits of a listing as facts: its places in use, that its SAIDs differ, and which it names.
use mathlib.Core.Path.{◌≡◌, refl, sym, ◌∙◌}
use mathlib.Core.Bool.{Bool, true, false, ◌&&◌, ◌||◌}
use mathlib.Core.Logic.{◌⊎◌, inl, inr}
use Prim.Native.Nat.{ℕ, ◌≤◌, ◌<◌}
use native.Mathlib.Omega.{arith}
use lib.Dec.{leb, ltb, eqb}
use borrow.Author.Tests.{leb-true, ltb-true, lt-ltb, eqb-true, eq-eqb, lt-leb, not-true}
use Rattle.key_traffic.specs.Suites.{suite_known_of}
use Rattle.questions.proofs.TestLaws.{both, either}
use Rattle.message_rules.proofs.HoldsLaws.{never}
use Rattle.key_association.specs.declared.listing.Listing.{Listing}
use Rattle.key_association.specs.Listing.{names_of}
use Rattle.headend_state.specs.Entries.{said_at, suite_at, lists}
use Rattle.headend_state.proofs.PlaceLaws.{by_four}
use Rattle.headend_limits.specs.Limits.{place_fits_of, listing_fits_of, new_at, saids_differ_of}

pub neither : (a b : Bool) → a || b ≡ false → (a ≡ false) × (b ≡ false)
neither true b e = let z : ◌≡◌ {A = ℕ} 0 1 = cc in absurd (omega arith)
neither false b e = (refl, e)

-- ---- a listing
pub record ListingIn (l : Listing) : Type 0 where
  pub low : 1 ≤ l.count
  pub high : l.count ≤ 4
  pub said : (i : ℕ) → i < l.count → said_at l i ≤ 16383
  pub suite : (i : ℕ) → i < l.count → suite_known_of (suite_at l i) ≡ true
  pub differ : (i j : ℕ) → i < j → j < l.count → said_at l i ≡ said_at l j → ⊥

module _ (l : Listing) where
  place_in : (i : ℕ) → place_fits_of l i ≡ true → i < l.count → (said_at l i ≤ 16383) × (suite_known_of (suite_at l i) ≡ true)
  unfolding place_fits_of
  place_in i e h =
      let e2 = both (leb (said_at l i) 16383) (suite_known_of (suite_at l i)) (rw (lt-leb l.count i h) at e) in
      (leb-true (said_at l i) 16383 e2.0, e2.1)

  -- a SAID is named exactly where one of the first n is it
  named_not : (i : ℕ) (n said : ℕ) → ltb i n && eqb (said_at l i) said ≡ false → i < n → said_at l i ≡ said → ⊥
  named_not i n said e h q = never (sym e ∙ rw (lt-ltb i n h, eq-eqb (said_at l i) said q))

  pub unnamed : (n said : ℕ) → names_of n (said_at l 0) (said_at l 1) (said_at l 2) (said_at l 3) said ≡ false → (i : ℕ) → i < 4 → i < n → said_at l i ≡ said → ⊥
  unfolding names_of
  unnamed n said e =
      let e3 = neither _ _ e in
      let e2 = neither _ _ e3.0 in
      let e1 = neither _ _ e2.0 in
      by_four (λ i. i < n → said_at l i ≡ said → ⊥)
      (named_not 0 n said e1.0) (named_not 1 n said e1.1) (named_not 2 n said e2.1) (named_not 3 n said e3.1)

  named_yes : (i n said : ℕ) → ltb i n && eqb (said_at l i) said ≡ true → (j : ℕ) × (j < n) × (said_at l j ≡ said)
  named_yes i n said e =
      let e2 = both (ltb i n) (eqb (said_at l i) said) e in
      (i, ltb-true i n e2.0, eqb-true (said_at l i) said e2.1)

  module _ (said : ℕ) where
    abbrev hits : ℕ → Bool
    hits i = ltb i l.count && eqb (said_at l i) said

    abbrev pub ListedAt : Type 0
    ListedAt = (i : ℕ) × (i < l.count) × (said_at l i ≡ said)

    of_two : (hits 0 ≡ true) ⊎ (hits 1 ≡ true) → ListedAt
    of_two (inl h) = named_yes 0 l.count said h
    of_two (inr h) = named_yes 1 l.count said h

    of_three : (hits 0 || hits 1 ≡ true) ⊎ (hits 2 ≡ true) → ListedAt
    of_three (inl h) = of_two (either (hits 0) (hits 1) h)
    of_three (inr h) = named_yes 2 l.count said h

    of_four : (hits 0 || hits 1 || hits 2 ≡ true) ⊎ (hits 3 ≡ true) → ListedAt
    of_four (inl h) = of_three (either (hits 0 || hits 1) (hits 2) h)
    of_four (inr h) = named_yes 3 l.count said h

    pub listed_at : lists l said ≡ true → (i : ℕ) × (i < l.count) × (said_at l i ≡ said)
    unfolding names_of
    listed_at e = of_four (either (hits 0 || hits 1 || hits 2) (hits 3) e)

  new_in : (j : ℕ) → new_at l j ≡ true → j < l.count → j < 4 → (i : ℕ) → i < j → said_at l i ≡ said_at l j → ⊥
  unfolding new_at
  new_in j e h small i less =
      unnamed j (said_at l j)
      (not-true (names_of j (said_at l 0) (said_at l 1) (said_at l 2) (said_at l 3) (said_at l j)) (rw (lt-leb l.count j h) at e))
      i (omega arith) less

  places_in : place_fits_of l 0 ≡ true → place_fits_of l 1 ≡ true → place_fits_of l 2 ≡ true → place_fits_of l 3 ≡ true
      → (i : ℕ) → i < 4 → i < l.count → (said_at l i ≤ 16383) × (suite_known_of (suite_at l i) ≡ true)
  places_in e₀ e₁ e₂ e₃ =
      by_four (λ i. i < l.count → (said_at l i ≤ 16383) × (suite_known_of (suite_at l i) ≡ true)) (place_in 0 e₀) (place_in 1 e₁) (place_in 2 e₂) (place_in 3 e₃)

  all_new : new_at l 1 ≡ true → new_at l 2 ≡ true → new_at l 3 ≡ true
      → (j : ℕ) → j < 4 → j < l.count → (i : ℕ) → i < j → said_at l i ≡ said_at l j → ⊥
  all_new e₁ e₂ e₃ =
      by_four (λ j. j < l.count → (i : ℕ) → i < j → said_at l i ≡ said_at l j → ⊥)
      (λ h i less. absurd (omega arith))
      (λ h. new_in 1 e₁ h (omega arith))
      (λ h. new_in 2 e₂ h (omega arith))
      (λ h. new_in 3 e₃ h (omega arith))

  pub listing_facts : listing_fits_of l ≡ true → saids_differ_of l ≡ true → ListingIn l
  unfolding listing_fits_of saids_differ_of
  listing_facts e d =
      let s₅ = both _ _ e in
      let s₄ = both _ _ s₅.0 in
      let s₃ = both _ _ s₄.0 in
      let s₂ = both _ _ s₃.0 in
      let s₁ = both _ _ s₂.0 in
      let d₂ = both (new_at l 1 && new_at l 2) (new_at l 3) d in
      let d₁ = both (new_at l 1) (new_at l 2) d₂.0 in
      let few : l.count ≤ 4 = leb-true l.count 4 s₁.1 in
      record {
        low = leb-true 1 l.count s₁.0;
        high = few;
        said = λ i h. (places_in s₂.1 s₃.1 s₄.1 s₅.1 i (omega arith) h).0;
        suite = λ i h. (places_in s₂.1 s₃.1 s₄.1 s₅.1 i (omega arith) h).1;
        differ = λ i j less h. all_new d₁.0 d₁.1 d₂.1 j (omega arith) h i less;
      }

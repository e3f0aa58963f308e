-- Question 8 of a message, from the pass over its body and the passes over its compounds.
use Prim.Native.Nat.{ℕ}
use mathlib.Core.Path.{◌≡◌, refl, sym}
use mathlib.Core.List.{List, [], ◌∷◌}
use mathlib.Core.Bool.{true, false, ◌&&◌, cond}
use lib.ListN.{length, get_or, take, drop}
use lib.Dec.{leb, eqb}
use borrow.Author.Tests.{eqb-true}
use Rattle.message_rules.specs.Attributes.{Item, attr, cut, items, values, value_at, count_of, all_of, items_with}
use Rattle.message_rules.specs.Ranges.{is_required_of, among, required_of, fits, compound, good, inside_sound, sound}
use Rattle.message_compounds.specs.declared.compound.Compounds.{Compounds}
use Rattle.message_holders.specs.Pass.{body_pass, inside_pass}
use Rattle.message_compounds.specs.Compounds.{pair_of, rest_sound_of, four_value, compounds_of}
use Rattle.message_holders.proofs.BoolLaws.{and_four, and_pairs}
use Rattle.message_compounds.proofs.InsideLaws.{sound_13, sound_23}
use Rattle.message_holders.proofs.HitLaws.{true_not_false}
use Rattle.message_holders.proofs.BodyLaws.{kept_by_of, all_sound_of, sound_is}
use Rattle.message_reader.proofs.PlaceLaws.{up_to5, count_is, inside_0, inside_1, inside_2, inside_3}
use Rattle.message_reader.proofs.CodeLaws.{Code, code_4, code_5, code_6, code_7, code_8, code_9, code_10, code_11, code_12, Plain, plain_4, plain_6, plain_7, plain_9, plain_10, plain_11, plain_12, six_8, six_5, no_six}

-- what the reader takes from the compounds of message m of code c
abbrev pub compounds_in_of : ℕ → List ℕ → Compounds
compounds_in_of c m = compounds_of c m (body_pass c m).count (body_pass c m).compounds

-- ---- the first four values
kept_type : (t : ℕ) (l : List Item) → kept_by_of (λ k. eqb k t) l ≡ values t l
unfolding kept_by_of values
kept_type t [] = refl
kept_type t (attr k v ∷ l) = rw (kept_type t l) refl
kept_type t (cut ∷ l) = kept_type t l

kept_none : (l : List Item) → kept_by_of (λ k. false) l ≡ []
unfolding kept_by_of
kept_none [] = refl
kept_none (attr k v ∷ l) = kept_none l
kept_none (cut ∷ l) = kept_none l

-- a compound that is not there is sound
absent : (t : ℕ) → inside_sound t [] ≡ true
unfolding inside_sound items items_with all_of
absent t = refl

four_sound : (t : ℕ) (vs : List (List ℕ))
    → inside_sound t (get_or vs 0 []) && inside_sound t (get_or vs 1 []) && inside_sound t (get_or vs 2 []) && inside_sound t (get_or vs 3 [])
    ≡ all_sound_of t (take 4 vs)
unfolding all_sound_of
four_sound t [] = rw (absent t) refl
four_sound t (v ∷ []) = rw (absent t) (and_four (inside_sound t v) true true true)
four_sound t (v ∷ w ∷ []) = rw (absent t) (and_four (inside_sound t v) (inside_sound t w) true true)
four_sound t (v ∷ w ∷ x ∷ []) = rw (absent t) (and_four (inside_sound t v) (inside_sound t w) (inside_sound t x) true)
four_sound t (v ∷ w ∷ x ∷ y ∷ vs) = and_four (inside_sound t v) (inside_sound t w) (inside_sound t x) (inside_sound t y)

rest_sound : (t : ℕ) (vs : List (List ℕ))
    → cond (leb (up_to5 (length vs)) 2) true (inside_sound t (get_or vs 2 []) && inside_sound t (get_or vs 3 []))
    ≡ inside_sound t (get_or vs 2 []) && inside_sound t (get_or vs 3 [])
rest_sound t [] = rw (absent t) refl
rest_sound t (v ∷ []) = rw (absent t) refl
rest_sound t (v ∷ w ∷ []) = rw (absent t) refl
rest_sound t (v ∷ w ∷ x ∷ []) = refl
rest_sound t (v ∷ w ∷ x ∷ y ∷ []) = refl
rest_sound t (v ∷ w ∷ x ∷ y ∷ z ∷ vs) = refl

-- ---- by the code
module _ (m : List ℕ) where
  abbrev l : List Item
  l = items (drop 4 m)

  inner_8 : (k : ℕ) (v : List ℕ) → eqb k 13 ≡ true → (good 8 k v ≡ inside_sound 13 v) × ((inside_pass k v).sound ≡ inside_sound 13 v)
  unfolding good is_required_of among required_of fits compound
  inner_8 k v e = rw (eqb-true k 13 e) (refl, sound_13 v)

  inner_5 : (k : ℕ) (v : List ℕ) → eqb k 23 ≡ true → (good 5 k v ≡ inside_sound 23 v) × ((inside_pass k v).sound ≡ inside_sound 23 v)
  unfolding good is_required_of among required_of fits compound
  inner_5 k v e = rw (eqb-true k 23 e) (refl, sound_23 v)

  sound_8 : (body_pass 8 m).sound && (compounds_in_of 8 m).sound ≡ sound 8 (drop 4 m)
  unfolding compounds_of pair_of rest_sound_of value_at count_of
  sound_8 =
      rw (
        count_is 8 13 six_8 m,
        inside_0 8 13 six_8 m,
        inside_1 8 13 six_8 m,
        inside_2 8 13 six_8 m,
        inside_3 8 13 six_8 m,
        rest_sound 13 (values 13 l),
        and_pairs,
        four_sound 13 (values 13 l),
        ← kept_type 13 l,
      ) (sound_is 8 13 (λ k. eqb k 13) six_8 inner_8 m)

  sound_5 : (body_pass 5 m).sound && (compounds_in_of 5 m).sound ≡ sound 5 (drop 4 m)
  unfolding compounds_of four_value value_at
  sound_5 =
      rw (
        inside_0 5 23 six_5 m,
        inside_1 5 23 six_5 m,
        inside_2 5 23 six_5 m,
        inside_3 5 23 six_5 m,
        four_sound 23 (values 23 l),
        ← kept_type 23 l,
      ) (sound_is 5 23 (λ k. eqb k 23) six_5 inner_5 m)

  -- a body with no compound
  sound_plain : {c : ℕ} → Plain c → (body_pass c m).sound && true ≡ sound c (drop 4 m)
  unfolding all_sound_of
  sound_plain {c} p =
      rw (kept_none l) at (sound_is c 0 (λ k. false) (no_six p) (λ k v e. absurd (true_not_false (sym e))) m)

  pub sound_code : {c : ℕ} → Code c → (body_pass c m).sound && (compounds_in_of c m).sound ≡ sound c (drop 4 m)
  unfolding compounds_of
  sound_code code_4 = sound_plain plain_4
  sound_code code_5 = sound_5
  sound_code code_6 = sound_plain plain_6
  sound_code code_7 = sound_plain plain_7
  sound_code code_8 = sound_8
  sound_code code_9 = sound_plain plain_9
  sound_code code_10 = sound_plain plain_10
  sound_code code_11 = sound_plain plain_11
  sound_code code_12 = sound_plain plain_12

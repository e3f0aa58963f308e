-- Laws of the pairs of a listing: read one at a time, they are what the form says.
use mathlib.Core.Path.{◌≡◌, refl, sym, ap, ◌∙◌}
use mathlib.Core.Bool.{Bool, true, false, cond, ◌&&◌, and-false}
use mathlib.Core.List.{List, [], ◌∷◌, ◌++◌, append-nil, append_assoc}
use Prim.Native.Nat.{ℕ, ◌+◌, ◌≤◌, ◌<◌}
use native.Mathlib.Omega.{arith}
use lib.ListN.{length, drop, set, length-append}
use Rattle.key_association.specs.declared.listing.Listing.{Listing}
use Rattle.std.specs.Prelude.{Option, None, Some}
use Rattle.std.specs.Bool.{then_some}
use Rattle.text.specs.Decimal.{number_at, number_of, fitting, leading, value_of, value_from}
use Rattle.replay_fields.specs.declared.listing.Pair.{Pair}
use Rattle.replay_fields.specs.Fields.{field, is_number}
use Rattle.key_association.specs.Listing.{no_listing_of}
use Rattle.replay_fields.specs.Listing.{word_in, is_pairs, saids_in_of, suites_in, first_four, listing_in}
use Rattle.replay_fields.specs.Places.{text_of, field_at, fields_from_of, pair_at, with_pair_of, pairs_of}
use Rattle.replay_fields.proofs.FieldLaws.{from_past, from_step, text_is, rest_is, field_inside, place_is}

-- ---- with the pairs so far

-- the answer for the fields that are left
unfoldable pub pairs_from_of : Listing → List (List ℕ) → Option Listing
pairs_from_of a [] = Some a
pairs_from_of a (s ∷ []) = None
pairs_from_of a (s ∷ u ∷ fs) = cond (is_number s && is_number u) (pairs_from_of (with_pair_of a (word_in s) (word_in u)) fs) None

-- the listing of these SAIDs and suites
abbrev listing_of : List ℕ → List ℕ → Listing
listing_of xs ys = record { count = length xs; saids = first_four xs; suites = first_four ys }

four_more : (xs : List ℕ) (x : ℕ) → set (first_four xs) (length xs) x ≡ first_four (xs ++ (x ∷ []))
unfolding first_four
four_more [] x = refl
four_more (a ∷ []) x = refl
four_more (a ∷ b ∷ []) x = refl
four_more (a ∷ b ∷ c ∷ []) x = refl
four_more (a ∷ b ∷ c ∷ d ∷ xs) x = refl

pair_more : (xs ys : List ℕ) (x y : ℕ) → length xs ≡ length ys → with_pair_of (listing_of xs ys) x y ≡ listing_of (xs ++ (x ∷ [])) (ys ++ (y ∷ []))
unfolding with_pair_of
pair_more xs ys x y e =
    ap (λ (n : ℕ). record { count = n; saids = set (first_four xs) (length xs) x; suites = set (first_four ys) (length xs) y }) (sym (length-append xs (x ∷ [])))
    ∙ ap (λ (l : List ℕ). record { count = length (xs ++ (x ∷ [])); saids = l; suites = set (first_four ys) (length xs) y }) (four_more xs x)
    ∙ ap (λ (n : ℕ). record { count = length (xs ++ (x ∷ [])); saids = first_four (xs ++ (x ∷ [])); suites = set (first_four ys) n y }) e
    ∙ ap (λ (l : List ℕ). record { count = length (xs ++ (x ∷ [])); saids = first_four (xs ++ (x ∷ [])); suites = l }) (four_more ys y)

all_pairs : (fs : List (List ℕ)) (xs ys : List ℕ) → length xs ≡ length ys
    → pairs_from_of (listing_of xs ys) fs ≡ then_some (is_pairs fs) (listing_of (xs ++ saids_in_of fs) (ys ++ suites_in fs))
unfolding pairs_from_of is_pairs saids_in_of suites_in
all_pairs [] xs ys e = rw (append-nil xs, append-nil ys)
all_pairs (s ∷ []) xs ys e = refl
all_pairs (s ∷ u ∷ fs) xs ys e =
    go (is_number s && is_number u)
    (all_pairs fs (xs ++ (word_in s ∷ [])) (ys ++ (word_in u ∷ [])) (length-append xs (word_in s ∷ []) ∙ ap (λ (n : ℕ). n + 1) e ∙ sym (length-append ys (word_in u ∷ []))))
  where
    go : (t : Bool)
        → pairs_from_of (listing_of (xs ++ (word_in s ∷ [])) (ys ++ (word_in u ∷ []))) fs ≡ then_some (is_pairs fs) (listing_of ((xs ++ (word_in s ∷ [])) ++ saids_in_of fs) ((ys ++ (word_in u ∷ [])) ++ suites_in fs))
        → cond t (pairs_from_of (with_pair_of (listing_of xs ys) (word_in s) (word_in u)) fs) None
        ≡ then_some (t && is_pairs fs) (listing_of (xs ++ (word_in s ∷ saids_in_of fs)) (ys ++ (word_in u ∷ suites_in fs)))
    go true q =
        ap (λ (a : Listing). pairs_from_of a fs) (pair_more xs ys (word_in s) (word_in u) e)
        ∙ q
        ∙ ap (λ (l : List ℕ). then_some (is_pairs fs) (listing_of l ((ys ++ (word_in u ∷ [])) ++ suites_in fs))) (append_assoc xs (word_in s ∷ []) (saids_in_of fs))
        ∙ ap (λ (l : List ℕ). then_some (is_pairs fs) (listing_of (xs ++ (word_in s ∷ saids_in_of fs)) l)) (append_assoc ys (word_in u ∷ []) (suites_in fs))
    go false q = refl

-- from no pair on
pub pairs_all : (fs : List (List ℕ)) → pairs_from_of no_listing_of fs ≡ pairs_of fs
unfolding pairs_of listing_in first_four
pairs_all fs = all_pairs fs [] [] refl

-- ---- one pair at a time

empty_none : is_number [] ≡ false
unfolding is_number number_at number_of fitting leading value_of value_from
empty_none = refl

pub pairs_end : (a : Listing) (l : List ℕ) (at : ℕ) → length l < at → pairs_from_of a (fields_from_of l at) ≡ Some a
unfolding pairs_from_of
pairs_end a l at h = ap (pairs_from_of a) (from_past l at h)

pub more_counts : (a : Listing) (x y : ℕ) (b : Listing) → b ≡ with_pair_of a x y → b.count ≡ a.count + 1
unfolding with_pair_of
more_counts a x y b e = ap (λ (z : Listing). z.count) e

pair_yes : (a : Listing) (t : List ℕ) (r : List (List ℕ)) → (is_number t && is_number (field r 0)) ≡ true
    → pairs_from_of a (t ∷ r) ≡ pairs_from_of (with_pair_of a (word_in t) (word_in (field r 0))) (drop 1 r)
unfolding pairs_from_of
pair_yes a t [] e = absurd (omega (arith, never))
  where
    never : ◌≡◌ {A = ℕ} 0 1
    never = let q : (is_number t && is_number []) ≡ false = rw empty_none (and-false (is_number t)) in let z : ◌≡◌ {A = ℕ} 0 1 = cc in z
pair_yes a t (u ∷ r) e = rw e refl

pair_no : (a : Listing) (t : List ℕ) (r : List (List ℕ)) → (is_number t && is_number (field r 0)) ≡ false → pairs_from_of a (t ∷ r) ≡ None
unfolding pairs_from_of
pair_no a t [] e = refl
pair_no a t (u ∷ r) e = rw e refl

module _ (l : List ℕ) (at : ℕ) (a : Listing) (here : at ≤ length l) where
  second_is : text_of l (field_at l ((field_at l at).end + 1)) ≡ field (fields_from_of l ((field_at l at).end + 1)) 0
  second_is = text_is l ((field_at l at).end + 1)

  -- both fields are numbers
  both_of : Bool
  both_of = is_number (text_of l (field_at l at)) && is_number (field (fields_from_of l ((field_at l at).end + 1)) 0)

  pair_of : pair_at l at ≡ then_some both_of (record {
    said = word_in (text_of l (field_at l at));
    suite = word_in (field (fields_from_of l ((field_at l at).end + 1)) 0);
    next = (field_at l ((field_at l at).end + 1)).end + 1;
  })
  unfolding pair_at both_of
  pair_of = rw second_is refl

  pub turn_no : pair_at l at ≡ None → pairs_from_of a (fields_from_of l at) ≡ None
  unfolding both_of
  turn_no e = ap (pairs_from_of a) (from_step l at here) ∙ pair_no a _ _ (go both_of _ (sym pair_of ∙ e))
    where
      go : (t : Bool) (q : Pair) → then_some t q ≡ None → t ≡ false
      go true q f = let z : ◌≡◌ {A = ℕ} 0 1 = cc in absurd (omega arith)
      go false q f = refl

  module _ (p : Pair) (e : pair_at l at ≡ Some p) where
    some_of : (t : Bool) (q : Pair) → then_some t q ≡ Some p → (t ≡ true) × (p ≡ q)
    some_of true q f = (refl, (cc))
    some_of false q f = let z : ◌≡◌ {A = ℕ} 0 1 = cc in absurd (omega arith)

    pub turn_yes : pairs_from_of a (fields_from_of l at) ≡ pairs_from_of (with_pair_of a p.said p.suite) (fields_from_of l p.next)
    unfolding both_of
    turn_yes =
        let r = fields_from_of l ((field_at l at).end + 1) in
        let h = some_of both_of _ (sym pair_of ∙ e) in
        let rest : fields_from_of l p.next ≡ drop 1 r = ap (λ (q : Pair). fields_from_of l q.next) h.1 ∙ rest_is l ((field_at l at).end + 1) in
        ap (pairs_from_of a) (from_step l at here)
        ∙ pair_yes a (text_of l (field_at l at)) r h.0
        ∙ ap (pairs_from_of (with_pair_of a (word_in (text_of l (field_at l at))) (word_in (field r 0)))) (sym rest)
        ∙ ap (λ (q : Pair). pairs_from_of (with_pair_of a q.said q.suite) (fields_from_of l p.next)) (sym h.1)

    pub turn_on : at < p.next
    turn_on =
        omega (
          arith,
          ap (λ (q : Pair). q.next) (some_of both_of _ (sym pair_of ∙ e)).1,
          place_is l at,
          (field_inside l at).ordered,
          (field_inside l at).ended,
          place_is l ((field_at l at).end + 1),
          (field_inside l ((field_at l at).end + 1)).ordered,
        )

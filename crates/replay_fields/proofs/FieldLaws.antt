-- Laws of the fields of a line: where each stands, and that reading on from there gives the others.
use mathlib.Core.Path.{◌≡◌, refl, sym, ap, ◌∙◌, subst}
use mathlib.Core.Bool.{Bool, true, false, cond}
use mathlib.Core.List.{List, [], ◌∷◌}
use Prim.Native.Nat.{ℕ, suc, ◌+◌, ◌-◌, ◌≤◌, ◌<◌, min}
use native.Mathlib.Nat.{add-zero, add-sub_cancel_left}
use native.Mathlib.Omega.{arith}
use lib.Dec.{leb, ltb, eqb, leb-zero, leb-suc-suc}
use lib.ListN.{length, take, drop, length-take, length-drop}
use lib.Seq.{drop-drop, get_or-drop}
use borrow.Author.Tests.{le-leb, lt-leb, leb-true, leb-false}
use Rattle.std.proofs.Common.{count_by}
use Rattle.std.specs.Prelude.{Some, None, unwrap_or}
use Rattle.std.specs.List.{position, position_or_len}
use Rattle.std.proofs.lemmas.List.{drop_min}
use Rattle.std.proofs.lemmas.List.Sums.{sum_by-cons}
use Rattle.std.proofs.lemmas.List.Recursion.{is_position_or_len}
use Rattle.questions.proofs.ListLaws.{IfLt, if_lt}
use Rattle.replay_fields.specs.declared.fields.Field.{Field}
use Rattle.replay_fields.specs.Fields.{joined, cut_when, fields_of, field}
use Rattle.replay_fields.specs.Places.{Inside, Holds, Cut, text_of, field_at, fields_from_of, cuts_of}

-- the first field of a line
abbrev pub first : List ℕ → List ℕ
first l = field (fields_of l) 0

-- ---- its octets stand at the front

pub first_take : (l : List ℕ) → take (length (first l)) l ≡ first l
unfolding fields_of
first_take [] = refl
first_take (b ∷ l) = go (eqb b 44) (fields_of l) (first_take l)
  where
    go : (t : Bool) (fs : List (List ℕ)) → take (length (field fs 0)) l ≡ field fs 0
        → take (length (field (cut_when t b fs) 0)) (b ∷ l) ≡ field (cut_when t b fs) 0
    go true fs e = refl
    go false [] e = refl
    go false (f ∷ fs) e = ap (λ (k : List ℕ). b ∷ k) e

pub first_length : (l : List ℕ) → length (first l) ≤ length l
first_length l = omega (arith, ap length (first_take l), length-take (length (first l)) l)

-- ---- one octet at a time

joined_length : (b : ℕ) (fs : List (List ℕ)) → length (field (joined b fs) 0) ≡ suc (length (field fs 0))
joined_length b [] = refl
joined_length b (f ∷ fs) = refl

first_more : (b : ℕ) (l : List ℕ) → length (first (b ∷ l)) ≡ cond (eqb b 44) 0 (1 + length (first l))
unfolding fields_of
first_more b l = go (eqb b 44)
  where
    go : (t : Bool) → length (field (cut_when t b (fields_of l)) 0) ≡ cond t 0 (1 + length (first l))
    go true = refl
    go false = omega (arith, joined_length b (fields_of l))

-- the first field ends at the first comma, or the end
pub first_position : (l : List ℕ) → length (first l) ≡ position_or_len (λ x. eqb x 44) l
unfolding fields_of
first_position = is_position_or_len (λ l. length (first l)) (λ x. eqb x 44) refl first_more

-- as the code finds it
pub first_found : (l : List ℕ) → unwrap_or (position (λ x. eqb x 44) l) (length l) ≡ length (first l)
first_found l = go (ltb (position_or_len (λ x. eqb x 44) l) (length l)) (if_lt (position_or_len (λ x. eqb x 44) l) (length l))
  where
    go : (t : Bool) → IfLt (position_or_len (λ x. eqb x 44) l) (length l) t → unwrap_or (cond t (Some (position_or_len (λ x. eqb x 44) l)) None) (length l) ≡ length (first l)
    go true h = sym (first_position l)
    go false h = omega (arith, first_position l, first_length l)

-- one more than the commas
pub count_commas : (l : List ℕ) → count_by (λ x. eqb x 44) l + 1 ≡ length (fields_of l)
unfolding fields_of
count_commas [] = refl
count_commas (b ∷ l) =
    ap (λ (n : ℕ). n + 1) (sum_by-cons (λ x. cond (eqb x 44) 1 0) b l) ∙ go (eqb b 44) (fields_of l) (count_commas l)
  where
    go : (t : Bool) (fs : List (List ℕ)) → count_by (λ x. eqb x 44) l + 1 ≡ length fs → cond t 1 0 + count_by (λ x. eqb x 44) l + 1 ≡ length (cut_when t b fs)
    go true fs e = omega (arith, e)
    go false [] e = absurd (omega (arith, e))
    go false (f ∷ fs) e = omega (arith, e)

-- ---- the fields past the first

from_cons : (b : ℕ) (l : List ℕ) (k : ℕ) → fields_from_of (b ∷ l) (suc k) ≡ fields_from_of l k
unfolding fields_from_of
from_cons b l k = ap (λ (t : Bool). cond t (fields_of (drop k l)) []) (leb-suc-suc k (length l))

pub from_start : (l : List ℕ) → fields_from_of l 0 ≡ fields_of l
unfolding fields_from_of
from_start l = ap (λ (t : Bool). cond t (fields_of l) []) (leb-zero (length l))

from_none : fields_from_of [] 1 ≡ []
unfolding fields_from_of
from_none = refl

cut_first : (l : List ℕ) → fields_of l ≡ first l ∷ fields_from_of l (suc (length (first l)))
unfolding fields_of
cut_first [] = ap (λ (r : List (List ℕ)). [] ∷ r) (sym from_none)
cut_first (b ∷ l) = go (eqb b 44) (fields_of l) refl (cut_first l)
  where
    go : (t : Bool) (fs : List (List ℕ)) → fs ≡ fields_of l → fs ≡ field fs 0 ∷ fields_from_of l (suc (length (field fs 0)))
        → cut_when t b fs ≡ field (cut_when t b fs) 0 ∷ fields_from_of (b ∷ l) (suc (length (field (cut_when t b fs) 0)))
    go true fs q e = ap (λ (r : List (List ℕ)). [] ∷ r) (q ∙ sym (from_start l) ∙ sym (from_cons b l 0))
    go false [] q e = let z : ◌≡◌ {A = ℕ} 0 1 = cc in absurd (omega arith)
    go false (f ∷ fs) q e =
        let r : fs ≡ fields_from_of l (suc (length f)) = cc in
        ap (λ (k : List (List ℕ)). (b ∷ f) ∷ k) (r ∙ sym (from_cons b l (suc (length f))))

-- ---- the field at a place

module _ (l : List ℕ) (at : ℕ) where
  pub field_past : length l < at → ◌≡◌ {A = Field} (record { at = length l; end = length l }) (field_at l at)
  unfolding field_at
  field_past h =
      let m : min at (length l) ≡ length l = omega arith in
      let z : length (first (drop at l)) ≡ 0 = omega (arith, first_length (drop at l), length-drop at l) in
      let e : length l ≡ length l + 0 = omega arith in
      rw (m, z, ← e)

  pub field_here : (i : ℕ) → at ≤ length l → i ≡ at + length (first (drop at l)) → ◌≡◌ {A = Field} (record { at = at; end = i }) (field_at l at)
  unfolding field_at
  field_here i h e =
      let m : min at (length l) ≡ at = omega arith in
      rw (m, e)

  pub field_inside : Inside l (field_at l at)
  unfolding field_at
  field_inside = record {
    ordered = omega arith;
    ended = omega (arith, first_length (drop at l), length-drop at l);
  }

  pub place_is : (field_at l at).at ≡ min at (length l)
  unfolding field_at
  place_is = refl

  -- as the code finds it
  pub field_is : (m n : ℕ) → m ≡ min at (length l) → n ≡ length (first (drop m l)) → ◌≡◌ {A = Field} (record { at = m; end = m + n }) (field_at l at)
  unfolding field_at
  field_is m n e q = rw (q, e, drop_min at l)

  -- what `field_at` answers
  pub found : (f : Field) → f ≡ field_at l at → (f ≡ field_at l at) × Inside l f
  found f e = (e, subst (Inside l) (sym e) field_inside)

  -- ---- from a place on

  pub from_past : length l < at → fields_from_of l at ≡ []
  unfolding fields_from_of
  from_past h = simp (lt-leb at (length l) h)

  from_here : at ≤ length l → fields_from_of l at ≡ fields_of (drop at l)
  unfolding fields_from_of
  from_here h = simp (le-leb at (length l) h)

  from_later : (k : ℕ) → at ≤ length l → fields_from_of (drop at l) k ≡ fields_from_of l (at + k)
  unfolding fields_from_of
  from_later k h =
      rw (length-drop at l, drop-drop k at l)
      (ap (λ (t : Bool). cond t (fields_of (drop (at + k) l)) []) (go (leb (at + k) (length l)) refl))
    where
      go : (t : Bool) → leb (at + k) (length l) ≡ t → leb k (length l - at) ≡ t
      go true e = le-leb k (length l - at) (omega (arith, leb-true (at + k) (length l) e))
      go false e = lt-leb k (length l - at) (omega (arith, leb-false (at + k) (length l) e))

  text_here : text_of l (record { at = at; end = at + length (first (drop at l)) }) ≡ first (drop at l)
  unfolding text_of
  text_here = rw (add-sub_cancel_left at (length (first (drop at l)))) (first_take (drop at l))

  -- a field, and those after it
  pub from_step : at ≤ length l → fields_from_of l at ≡ text_of l (field_at l at) ∷ fields_from_of l ((field_at l at).end + 1)
  from_step h =
      let n = length (first (drop at l)) in
      let k : at + suc n ≡ at + n + 1 = omega arith in
      from_here h
      ∙ cut_first (drop at l)
      ∙ ap (λ (r : List (List ℕ)). first (drop at l) ∷ r) (from_later (suc n) h ∙ ap (fields_from_of l) k)
      ∙ ap (λ (t : List ℕ). t ∷ fields_from_of l (at + n + 1)) (sym text_here)
      ∙ ap (λ (f : Field). text_of l f ∷ fields_from_of l (f.end + 1)) (field_here (at + n) h refl)

  text_past : length l < at → text_of l (field_at l at) ≡ []
  unfolding text_of
  text_past h =
      let z : length l - length l ≡ 0 = omega arith in
      ap (λ (f : Field). take (f.end - f.at) (drop f.at l)) (sym (field_past h))
      ∙ ap (λ (k : ℕ). take k (drop (length l) l)) z

  pub text_is : text_of l (field_at l at) ≡ field (fields_from_of l at) 0
  text_is = go (ltb (length l) at) (if_lt (length l) at)
    where
      go : (t : Bool) → IfLt (length l) at t → text_of l (field_at l at) ≡ field (fields_from_of l at) 0
      go true h = text_past h ∙ sym (ap (λ (r : List (List ℕ)). field r 0) (from_past h))
      go false h = sym (ap (λ (r : List (List ℕ)). field r 0) (from_step h))

pub rest_is : (l : List ℕ) (at : ℕ) → fields_from_of l ((field_at l at).end + 1) ≡ drop 1 (fields_from_of l at)
rest_is l at = go (ltb (length l) at) (if_lt (length l) at)
  where
    go : (t : Bool) → IfLt (length l) at t → fields_from_of l ((field_at l at).end + 1) ≡ drop 1 (fields_from_of l at)
    go true h =
        ap (λ (f : Field). fields_from_of l (f.end + 1)) (sym (field_past l at h))
        ∙ from_past l (length l + 1) (omega arith)
        ∙ sym (ap (drop 1) (from_past l at h))
    go false h = sym (ap (drop 1) (from_step l at h))

-- the field at a place where all but the first k are left
module _ (l : List ℕ) (k at : ℕ) (e : fields_from_of l at ≡ drop k (fields_of l)) where
  pub nth_holds : Holds l (field_at l at) (field (fields_of l) k)
  nth_holds = record {
    inside = field_inside l at;
    text = text_is l at ∙ ap (λ (r : List (List ℕ)). field r 0) e ∙ get_or-drop k (fields_of l) 0 [] ∙ ap (field (fields_of l)) (add-zero k);
  }

  pub nth_rest : fields_from_of l ((field_at l at).end + 1) ≡ drop (k + 1) (fields_of l)
  nth_rest = rest_is l at ∙ ap (drop 1) e ∙ drop-drop 1 k (fields_of l)

pub cut_holds : (l : List ℕ) → Cut l (cuts_of l)
unfolding cuts_of
cut_holds l =
    let r₁ = nth_rest l 0 0 (from_start l) in
    let r₂ = nth_rest l 1 _ r₁ in
    let r₃ = nth_rest l 2 _ r₂ in
    let r₄ = nth_rest l 3 _ r₃ in
    let r₅ = nth_rest l 4 _ r₄ in
    record {
      counted = refl;
      name_is = nth_holds l 0 0 (from_start l);
      first_is = nth_holds l 1 _ r₁;
      second_is = nth_holds l 2 _ r₂;
      third_is = nth_holds l 3 _ r₃;
      fourth_is = nth_holds l 4 _ r₄;
      fifth_is = nth_holds l 5 _ r₅;
      sixth_is = nth_holds l 6 _ (nth_rest l 5 _ r₅);
      rest_is = r₄;
    }

-- TEK-Parameters, read: their fields are in their ranges, and those of a compound in the standard order are written as it.
use Prim.Native.Nat.{ℕ, zero, suc, ◌+◌, ◌*◌, ◌≤◌}
use mathlib.Core.Path.{◌≡◌, refl, sym, ap, ◌∙◌}
use mathlib.Core.List.{List, [], ◌∷◌, ◌++◌}
use mathlib.Core.Bool.{Bool, true, false, ◌&&◌}
use lib.ListN.{length, get_or, take, drop, replicate}
use lib.Seq.{take-length, take-take, take-append_seam}
use lib.Dec.{leb, eqb}
use native.Mathlib.Omega.{arith}
use borrow.Author.Tests.{eqb-true}
use Rattle.questions.proofs.TestLaws.{both}
use Rattle.key_traffic.proofs.OctetsLaws.{octets_zero_past}
use Rattle.key_traffic.specs.Octets.{padded, octets_value, zero_past_of}
use Rattle.key_traffic.specs.Suites.{width_known_of}
use Rattle.message_rules.specs.Attributes.{Item, attr, cut, item, items, items_with, values, keep_value, count_of, value_at, be32, four, octets}
use Rattle.message_rules.specs.Ranges.{required_of, among, is_required_of, longest_life_of, fits, inside_good, inside_sound}
use Rattle.message_rules.specs.Messages.{has_required}
use Rattle.message_rules.specs.Fields.{key_octets_of, params_of}
use Rattle.message_rules.specs.Limits.{key_octets_fit_of, params_fit_of}
use Rattle.message_rules.specs.Standard.{ordered}
use Rattle.message_rules.specs.Writing.{own_octets_of, params_items_of}
use Rattle.message_rules.proofs.AttributesLaws.{Octets, octets_take, octets_drop, one_be, four_be32, octets_items}
use Rattle.message_rules.proofs.HoldsLaws.{all_whole, all_value}
use Rattle.message_rules.proofs.CodesLaws.{times, told_once, distinct}
use Rattle.message_rules.proofs.OrderLaws.{blocks, below, ordered_blocks}
use Rattle.message_rules.proofs.PartsWritten.{width_most}

-- ---- values of octets
abbrev pub OctetItems : List Item → Type 0
OctetItems [] = Unit {0}
OctetItems (attr k v ∷ l) = Octets v × OctetItems l
OctetItems (cut ∷ l) = OctetItems l

octet_with : (f : ℕ) (s : List ℕ) → Octets s → OctetItems (items_with f s)
unfolding items_with
octet_with zero s o = tt
octet_with (suc f) [] o = tt
octet_with (suc f) (k ∷ []) o = tt
octet_with (suc f) (k ∷ a ∷ []) o = tt
octet_with (suc f) (k ∷ a ∷ b ∷ r) o =
    go (leb (a * 256 + b) (length r)) (octets_take (a * 256 + b) r o.1.1.1) (octet_with f (drop (a * 256 + b) r) (octets_drop (a * 256 + b) r o.1.1.1))
  where
    go : (t : Bool) → Octets (take (a * 256 + b) r) → OctetItems (items_with f (drop (a * 256 + b) r))
        → OctetItems (item t k (a * 256 + b) r (items_with f (drop (a * 256 + b) r)))
    go true h ih = (h, ih)
    go false h ih = tt

pub octet_items : (s : List ℕ) → Octets s → OctetItems (items s)
unfolding items
octet_items s o = octet_with (length s) s o

pub octet_value : (k n : ℕ) (l : List Item) → OctetItems l → Octets (value_at k n l)
unfolding value_at values
octet_value k n [] o = tt
octet_value k n (attr j v ∷ l) o = go n (eqb j k) (λ i. octet_value k i l o.1)
  where
    go : (i : ℕ) (b : Bool) → ((i : ℕ) → Octets (get_or (values k l) i [])) → Octets (get_or (keep_value b v (values k l)) i [])
    go zero true ih = o.0
    go (suc i) true ih = ih i
    go i false ih = ih i
octet_value k n (cut ∷ l) o = octet_value k n l o

pub one_of : (vs : List (List ℕ)) → length vs ≡ 1 → vs ≡ get_or vs 0 [] ∷ []
one_of [] e = absurd (omega arith)
one_of (v ∷ []) e = refl
one_of (v ∷ w ∷ vs) e = absurd (omega arith)

pub two_of : (vs : List (List ℕ)) → length vs ≡ 2 → vs ≡ get_or vs 0 [] ∷ get_or vs 1 [] ∷ []
two_of [] e = absurd (omega arith)
two_of (v ∷ []) e = absurd (omega arith)
two_of (v ∷ w ∷ []) e = refl
two_of (v ∷ w ∷ x ∷ vs) e = absurd (omega arith)

-- ---- octets of a key or a vector
pub padded_past : (v : List ℕ) → zero_past_of (length v) (padded v) ≡ true
unfolding octets_value
padded_past v = rw (take-length v) at (octets_zero_past v 0 (length v))

pub own_again : (v : List ℕ) → length v ≤ 16 → own_octets_of (key_octets_of v) ≡ v
unfolding key_octets_of padded
own_again v h = take-take (length v) 16 (v ++ replicate 16 0) h ∙ take-append_seam v (replicate 16 0)

-- ---- TEK-Parameters
module _ (v : List ℕ) (ok : inside_sound 13 v ≡ true) (required : has_required (required_of 13) (items v) ≡ true) where
  params_once : (k : ℕ) → eqb k 13 ≡ false → eqb k 23 ≡ false → among k (required_of 13) ≡ true → count_of k (items v) ≡ 1
  unfolding required_of times
  params_once k p q a = told_once k (items v) 13 refl p q a required

  tek_good : width_known_of (length (value_at 8 0 (items v))) ≡ true
  unfolding inside_sound inside_good is_required_of required_of among fits
  tek_good = all_value (inside_good 13) 8 0 (items v) ok (omega (arith, params_once 8 refl refl refl))

  vector_good : width_known_of (length (value_at 15 0 (items v))) ≡ true
  unfolding inside_sound inside_good is_required_of required_of among fits
  vector_good = all_value (inside_good 13) 15 0 (items v) ok (omega (arith, params_once 15 refl refl refl))

  number_good : (eqb (length (value_at 10 0 (items v))) 1 ≡ true) × (leb (get_or (value_at 10 0 (items v)) 0 0) 15 ≡ true)
  unfolding inside_sound inside_good is_required_of required_of among fits
  number_good =
      both (eqb (length (value_at 10 0 (items v))) 1) (leb (get_or (value_at 10 0 (items v)) 0 0) 15)
      (all_value (inside_good 13) 10 0 (items v) ok (omega (arith, params_once 10 refl refl refl)))

  life_good : (eqb (length (value_at 9 0 (items v))) 4 ≡ true) × (leb 1 (be32 (value_at 9 0 (items v))) ≡ true) × (leb (be32 (value_at 9 0 (items v))) 604800 ≡ true)
  unfolding inside_sound inside_good is_required_of required_of among fits longest_life_of
  life_good =
      let a = eqb (length (value_at 9 0 (items v))) 4 in
      let b = leb 1 (be32 (value_at 9 0 (items v))) in
      let e2 = both (a && b) (leb (be32 (value_at 9 0 (items v))) 604800) (all_value (inside_good 13) 9 0 (items v) ok (omega (arith, params_once 9 refl refl refl))) in
      let e1 = both a b e2.0 in
      (e1.0, e1.1, e2.1)

  pub params_read_fit : params_fit_of (params_of v) ≡ true
  unfolding params_fit_of params_of key_octets_fit_of key_octets_of
  params_read_fit =
      rw (number_good.1, life_good.1, life_good.2, tek_good, vector_good, padded_past (value_at 8 0 (items v)), padded_past (value_at 15 0 (items v)))

  module _ (o : Octets v) (order : ordered 13 (items v) ≡ true) where
    params_block : (k : ℕ) → eqb k 13 ≡ false → eqb k 23 ≡ false → among k (required_of 13) ≡ true → values k (items v) ≡ value_at k 0 (items v) ∷ []
    unfolding value_at count_of
    params_block k p q a = one_of (values k (items v)) (params_once k p q a)

    params_are : params_items_of (params_of v) ≡ items v
    unfolding params_items_of params_of required_of among distinct below
    params_are =
        let n : get_or (value_at 10 0 (items v)) 0 0 ∷ [] ≡ value_at 10 0 (items v) = one_be (value_at 10 0 (items v)) (eqb-true (length (value_at 10 0 (items v))) 1 number_good.0) in
        let l : four (be32 (value_at 9 0 (items v))) ≡ value_at 9 0 (items v) =
        four_be32 (value_at 9 0 (items v)) (eqb-true (length (value_at 9 0 (items v))) 4 life_good.0) (octet_value 9 0 (items v) (octet_items v o)) in
        let t : own_octets_of (key_octets_of (value_at 8 0 (items v))) ≡ value_at 8 0 (items v) =
        own_again (value_at 8 0 (items v)) (width_most (length (value_at 8 0 (items v))) tek_good) in
        let w : own_octets_of (key_octets_of (value_at 15 0 (items v))) ≡ value_at 15 0 (items v) =
        own_again (value_at 15 0 (items v)) (width_most (length (value_at 15 0 (items v))) vector_good) in
        let b : blocks (λ k. values k (items v)) (required_of 13)
        ≡ attr 8 (value_at 8 0 (items v)) ∷ attr 9 (value_at 9 0 (items v)) ∷ attr 10 (value_at 10 0 (items v)) ∷ attr 15 (value_at 15 0 (items v)) ∷ [] =
        rw (params_block 8 refl refl refl, params_block 9 refl refl refl, params_block 10 refl refl refl, params_block 15 refl refl refl) in
        rw (n, l, t, w) (sym (ordered_blocks 13 (items v) refl refl order ∙ b))

    pub params_again : octets (params_items_of (params_of v)) ≡ v
    unfolding inside_sound
    params_again = ap octets params_are ∙ octets_items v o (all_whole (inside_good 13) (items v) ok)

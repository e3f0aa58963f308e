-- SA-Descriptors, read: their fields are in their ranges, and those of compounds in the standard order are written as they.
use Prim.Native.Nat.{ℕ, zero, suc, ◌≤◌, ◌<◌}
use mathlib.Core.Path.{◌≡◌, refl, sym, ap, ◌∙◌}
use mathlib.Core.List.{List, [], ◌∷◌}
use mathlib.Core.Bool.{true, false}
use lib.ListN.{length, get_or, take}
use lib.Dec.{leb, eqb}
use native.Mathlib.Omega.{arith}
use borrow.Author.Tests.{eqb-true}
use Rattle.questions.proofs.TestLaws.{both}
use Rattle.key_traffic.specs.Suites.{suite_known_of}
use Rattle.message_rules.specs.declared.fields.Descriptor.{Descriptor}
use Rattle.message_rules.specs.Attributes.{attr, items, values, count_of, value_at, be16, two, octets}
use Rattle.message_rules.specs.Ranges.{required_of, among, is_required_of, fits, inside_good, inside_sound}
use Rattle.message_rules.specs.Messages.{has_required, insides_have_required, saids_in_of}
use Rattle.message_rules.specs.Fields.{descriptor_of}
use Rattle.message_rules.specs.Limits.{descriptor_fit_of, saids_of}
use Rattle.message_rules.specs.Standard.{ordered, insides_ordered_of}
use Rattle.message_rules.specs.Writing.{descriptor_items_of, descriptors_items}
use Rattle.message_rules.proofs.AttributesLaws.{Octets, one_be, two_be16, octets_items}
use Rattle.message_rules.proofs.HoldsLaws.{all_whole, all_value}
use Rattle.message_rules.proofs.CodesLaws.{times, told_once, distinct}
use Rattle.message_rules.proofs.OrderLaws.{attrs, blocks, below, ordered_blocks}
use Rattle.message_rules.proofs.PartsRead.{octet_items, octet_value, one_of}

module _ (v : List ℕ) (ok : inside_sound 23 v ≡ true) (required : has_required (required_of 23) (items v) ≡ true) where
  once : (k : ℕ) → eqb k 13 ≡ false → eqb k 23 ≡ false → among k (required_of 23) ≡ true → count_of k (items v) ≡ 1
  unfolding required_of times
  once k p q a = told_once k (items v) 23 refl p q a required

  said_good : (eqb (length (value_at 12 0 (items v))) 2 ≡ true) × (leb (be16 (value_at 12 0 (items v))) 16383 ≡ true)
  unfolding inside_sound inside_good is_required_of required_of among fits
  said_good =
      both (eqb (length (value_at 12 0 (items v))) 2) (leb (be16 (value_at 12 0 (items v))) 16383)
      (all_value (inside_good 23) 12 0 (items v) ok (omega (arith, once 12 refl refl refl)))

  kind_good : (eqb (length (value_at 24 0 (items v))) 1 ≡ true) × (leb (get_or (value_at 24 0 (items v)) 0 0) 2 ≡ true)
  unfolding inside_sound inside_good is_required_of required_of among fits
  kind_good =
      both (eqb (length (value_at 24 0 (items v))) 1) (leb (get_or (value_at 24 0 (items v)) 0 0) 2)
      (all_value (inside_good 23) 24 0 (items v) ok (omega (arith, once 24 refl refl refl)))

  suite_good : (eqb (length (value_at 20 0 (items v))) 2 ≡ true) × (suite_known_of (be16 (value_at 20 0 (items v))) ≡ true)
  unfolding inside_sound inside_good is_required_of required_of among fits
  suite_good =
      both (eqb (length (value_at 20 0 (items v))) 2) (suite_known_of (be16 (value_at 20 0 (items v))))
      (all_value (inside_good 23) 20 0 (items v) ok (omega (arith, once 20 refl refl refl)))

  pub descriptor_read_fit : descriptor_fit_of (descriptor_of v) ≡ true
  unfolding descriptor_fit_of descriptor_of
  descriptor_read_fit = rw (said_good.1, kind_good.1, suite_good.1)

  module _ (o : Octets v) (order : ordered 23 (items v) ≡ true) where
    block : (k : ℕ) → eqb k 13 ≡ false → eqb k 23 ≡ false → among k (required_of 23) ≡ true → values k (items v) ≡ value_at k 0 (items v) ∷ []
    unfolding value_at count_of
    block k p q a = one_of (values k (items v)) (once k p q a)

    descriptor_is : descriptor_items_of (descriptor_of v) ≡ items v
    unfolding descriptor_items_of descriptor_of required_of among distinct below
    descriptor_is =
        let n : two (be16 (value_at 12 0 (items v))) ≡ value_at 12 0 (items v) =
        two_be16 (value_at 12 0 (items v)) (eqb-true (length (value_at 12 0 (items v))) 2 said_good.0) (octet_value 12 0 (items v) (octet_items v o)) in
        let k : get_or (value_at 24 0 (items v)) 0 0 ∷ [] ≡ value_at 24 0 (items v) = one_be (value_at 24 0 (items v)) (eqb-true (length (value_at 24 0 (items v))) 1 kind_good.0) in
        let s : two (be16 (value_at 20 0 (items v))) ≡ value_at 20 0 (items v) =
        two_be16 (value_at 20 0 (items v)) (eqb-true (length (value_at 20 0 (items v))) 2 suite_good.0) (octet_value 20 0 (items v) (octet_items v o)) in
        let b : blocks (λ k. values k (items v)) (required_of 23) ≡ attr 12 (value_at 12 0 (items v)) ∷ attr 24 (value_at 24 0 (items v)) ∷ attr 20 (value_at 20 0 (items v)) ∷ [] =
        rw (block 12 refl refl refl, block 24 refl refl refl, block 20 refl refl refl) in
        rw (n, k, s) (sym (ordered_blocks 23 (items v) refl refl order ∙ b))

    pub descriptor_again : octets (descriptor_items_of (descriptor_of v)) ≡ v
    unfolding inside_sound
    descriptor_again = ap octets descriptor_is ∙ octets_items v o (all_whole (inside_good 23) (items v) ok)

-- ---- up to four of them
abbrev pub reads : List (List ℕ) → List Descriptor
reads [] = []
reads (v ∷ vs) = descriptor_of v ∷ reads vs

abbrev pub four_value : List (List ℕ) → List Descriptor
four_value vs = descriptor_of (get_or vs 0 []) ∷ descriptor_of (get_or vs 1 []) ∷ descriptor_of (get_or vs 2 []) ∷ descriptor_of (get_or vs 3 []) ∷ []

pub take_four : (vs : List (List ℕ)) → length vs ≤ 4 → take (length vs) (four_value vs) ≡ reads vs
take_four [] h = refl
take_four (a ∷ []) h = refl
take_four (a ∷ b ∷ []) h = refl
take_four (a ∷ b ∷ c ∷ []) h = refl
take_four (a ∷ b ∷ c ∷ d ∷ []) h = refl
take_four (a ∷ b ∷ c ∷ d ∷ e ∷ vs) h = absurd (omega arith)

pub saids_read : (vs : List (List ℕ)) → saids_of (reads vs) ≡ saids_in_of vs
unfolding saids_of saids_in_of descriptor_of
saids_read [] = refl
saids_read (v ∷ vs) = rw (saids_read vs)

pub told_at : (k : ℕ) (vs : List (List ℕ)) (i : ℕ) → insides_have_required k vs ≡ true → i < length vs → has_required (required_of k) (items (get_or vs i [])) ≡ true
unfolding insides_have_required
told_at k [] i e h = absurd (omega arith)
told_at k (v ∷ vs) zero e h = (both (has_required (required_of k) (items v)) (insides_have_required k vs) e).0
told_at k (v ∷ vs) (suc i) e h = told_at k vs i (both (has_required (required_of k) (items v)) (insides_have_required k vs) e).1 (omega arith)

pub order_at : (k : ℕ) (vs : List (List ℕ)) (i : ℕ) → insides_ordered_of k vs ≡ true → i < length vs → ordered k (items (get_or vs i [])) ≡ true
unfolding insides_ordered_of
order_at k [] i e h = absurd (omega arith)
order_at k (v ∷ vs) zero e h = (both (ordered k (items v)) (insides_ordered_of k vs) e).0
order_at k (v ∷ vs) (suc i) e h = order_at k vs i (both (ordered k (items v)) (insides_ordered_of k vs) e).1 (omega arith)

pub descriptors_again : (vs : List (List ℕ)) → ((i : ℕ) → i < length vs → octets (descriptor_items_of (descriptor_of (get_or vs i []))) ≡ get_or vs i [])
    → descriptors_items (reads vs) ≡ attrs 23 vs
unfolding descriptors_items
descriptors_again [] h = refl
descriptors_again (v ∷ vs) h = rw (h 0 (omega arith), descriptors_again vs (λ i q. h (suc i) (omega arith)))

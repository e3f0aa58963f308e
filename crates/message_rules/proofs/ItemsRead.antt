-- The attributes of an accepted message in the standard order are those that its fields are written as.
use Prim.Native.Nat.{ℕ, ◌<◌}
use mathlib.Core.Path.{◌≡◌, refl, sym, ◌∙◌}
use mathlib.Core.List.{List, [], ◌∷◌}
use mathlib.Core.Bool.{true, false}
use lib.ListN.{length, get_or, take}
use lib.Dec.{leb, eqb}
use native.Mathlib.Omega.{arith}
use borrow.Author.Tests.{eqb-true}
use Rattle.questions.proofs.TestLaws.{both}
use Rattle.message_rules.specs.declared.fields.Fields.{Fields}
use Rattle.message_rules.specs.Attributes.{Item, values, count_of, value_at, be16, be32, two, four, octets}
use Rattle.message_rules.specs.Ranges.{Required, required_of, is_required_of, fits}
use Rattle.message_rules.specs.Fields.{params_of, carried, carried_count, fields_of}
use Rattle.message_rules.specs.Standard.{ordered, insides_ordered_of}
use Rattle.message_rules.specs.Writing.{params_items_of, descriptors_items, items_of_type, items_of_types, items_of}
use Rattle.message_rules.proofs.AttributesLaws.{one_be, two_be16, four_be32}
use Rattle.message_rules.proofs.CodesLaws.{AllKinds, all_kinds, needed_distinct}
use Rattle.message_rules.proofs.OrderLaws.{attrs, blocks, ordered_blocks, needed_below}
use Rattle.message_rules.proofs.PartsRead.{OctetItems, octet_value, one_of, two_of, params_again}
use Rattle.message_rules.proofs.DescriptorsRead.{four_value, take_four, order_at, descriptor_again, descriptors_again}
use Rattle.message_rules.proofs.TakenLaws.{Taken, once, twice, up_to_four, first_fits, inside_13, inside_23, told_13, told_23}
use Rattle.message_rules.proofs.ReadFits.{life_ranged}

types_blocks : (f : Fields) (key digest : List ℕ) (U : ℕ → List (List ℕ)) (ts : List Required) → AllKinds (λ k. items_of_type f key digest k ≡ attrs k (U k)) ts
    → items_of_types f key digest ts ≡ blocks U ts
unfolding items_of_types
types_blocks f key digest U [] h = refl
types_blocks f key digest U (t ∷ ts) h = rw (h.0, types_blocks f key digest U ts h.1)

-- A message of a code in the standard order, with its AUTH-Key and its digest
pub record InOrder (c : ℕ) (l : List Item) (key digest : List ℕ) : Type 0 where
  pub octet : OctetItems l
  pub order : ordered c l ≡ true
  pub params : insides_ordered_of 13 (values 13 l) ≡ true
  pub descriptors : insides_ordered_of 23 (values 23 l) ≡ true
  pub auth : is_required_of c 7 ≡ true → key ≡ value_at 7 0 l
  pub last : is_required_of c 11 ≡ true → digest ≡ value_at 11 0 l

module _ (c i : ℕ) (l : List Item) (key digest : List ℕ) (t : Taken c l) (o : InOrder c l key digest) where
  is : (k n : ℕ) → is_required_of c k ≡ true → carried c k n l ≡ value_at k n l
  unfolding carried
  is k n h = rw h

  alone : (k : ℕ) → eqb k 13 ≡ false → eqb k 23 ≡ false → is_required_of c k ≡ true → values k l ≡ value_at k 0 l ∷ []
  unfolding value_at count_of
  alone k p q h = one_of (values k l) (once c l t k p q h)

  abbrev Written : ℕ → Type 0
  Written k = items_of_type (fields_of c i l) key digest k ≡ attrs k (values k l)

  written_7 : is_required_of c 7 ≡ true → Written 7
  unfolding items_of_type
  written_7 h = rw (alone 7 refl refl h, o.auth h)

  written_9 : is_required_of c 9 ≡ true → Written 9
  unfolding items_of_type fields_of
  written_9 h =
      let e : four (be32 (value_at 9 0 l)) ≡ value_at 9 0 l = four_be32 (value_at 9 0 l) (life_ranged c l t h).0 (octet_value 9 0 l o.octet) in
      rw (alone 9 refl refl h, is 9 0 h, e)

  written_10 : is_required_of c 10 ≡ true → Written 10
  unfolding items_of_type fields_of fits
  written_10 h =
      let b = both (eqb (length (value_at 10 0 l)) 1) (leb (get_or (value_at 10 0 l) 0 0) 15) (first_fits c l t 10 refl refl h) in
      let e : get_or (value_at 10 0 l) 0 0 ∷ [] ≡ value_at 10 0 l = one_be (value_at 10 0 l) (eqb-true (length (value_at 10 0 l)) 1 b.0) in
      rw (alone 10 refl refl h, is 10 0 h, e)

  written_11 : is_required_of c 11 ≡ true → Written 11
  unfolding items_of_type
  written_11 h = rw (alone 11 refl refl h, o.last h)

  written_12 : is_required_of c 12 ≡ true → Written 12
  unfolding items_of_type fields_of fits
  written_12 h =
      let b = both (eqb (length (value_at 12 0 l)) 2) (leb (be16 (value_at 12 0 l)) 16383) (first_fits c l t 12 refl refl h) in
      let e : two (be16 (value_at 12 0 l)) ≡ value_at 12 0 l = two_be16 (value_at 12 0 l) (eqb-true (length (value_at 12 0 l)) 2 b.0) (octet_value 12 0 l o.octet) in
      rw (alone 12 refl refl h, is 12 0 h, e)

  written_16 : is_required_of c 16 ≡ true → Written 16
  unfolding items_of_type fields_of fits
  written_16 h =
      let e : get_or (value_at 16 0 l) 0 0 ∷ [] ≡ value_at 16 0 l = one_be (value_at 16 0 l) (eqb-true (length (value_at 16 0 l)) 1 (first_fits c l t 16 refl refl h)) in
      rw (alone 16 refl refl h, is 16 0 h, e)

  param_again : (n : ℕ) → is_required_of c 13 ≡ true → n < 2 → octets (params_items_of (params_of (value_at 13 n l))) ≡ value_at 13 n l
  unfolding value_at count_of
  param_again n h q =
      params_again (value_at 13 n l) (inside_13 c l t n h q) (told_13 c l t n h q) (octet_value 13 n l o.octet)
      (order_at 13 (values 13 l) n o.params (omega (arith, twice c l t h)))

  both_13 : is_required_of c 13 ≡ true → values 13 l ≡ value_at 13 0 l ∷ value_at 13 1 l ∷ []
  unfolding value_at count_of
  both_13 h = two_of (values 13 l) (twice c l t h)

  written_13 : is_required_of c 13 ≡ true → Written 13
  unfolding items_of_type fields_of
  written_13 h = rw (both_13 h, is 13 0 h, is 13 1 h, param_again 0 h (omega arith), param_again 1 h (omega arith))

  four_again : is_required_of c 23 ≡ true → descriptors_items (take (length (values 23 l)) (four_value (values 23 l))) ≡ attrs 23 (values 23 l)
  unfolding value_at count_of
  four_again h =
      rw (take_four (values 23 l) (up_to_four c l t h).1)
      (descriptors_again (values 23 l)
      (λ n q. descriptor_again (value_at 23 n l) (inside_23 c l t n h q) (told_23 c l t n h q) (octet_value 23 n l o.octet) (order_at 23 (values 23 l) n o.descriptors q)))

  written_23 : is_required_of c 23 ≡ true → Written 23
  unfolding items_of_type fields_of carried carried_count value_at count_of
  written_23 h = rw h (four_again h)

  pub items_again : items_of (fields_of c i l) key digest ≡ l
  unfolding items_of fields_of
  items_again =
      types_blocks (fields_of c i l) key digest (λ k. values k l) (required_of c)
      (all_kinds Written c t.low t.high
      (record {
        k7 = written_7;
        k9 = written_9;
        k10 = written_10;
        k11 = written_11;
        k12 = written_12;
        k13 = written_13;
        k16 = written_16;
        k23 = written_23;
      }))
      ∙ sym (ordered_blocks c l (needed_distinct c t.low t.high) (needed_below c t.low t.high) o.order)

-- What is written is in the standard order, for all nine codes.
use Prim.Native.Nat.{ℕ, ◌+◌}
use mathlib.Core.Path.{◌≡◌, refl, sym, ap, ◌∙◌}
use mathlib.Core.List.{List, [], ◌∷◌, append-nil}
use mathlib.Core.Bool.{true}
use lib.ListN.{length, take, replicate}
use native.Mathlib.Omega.{arith}
use borrow.Author.Tests.{eq-eqb}
use Rattle.message_rules.specs.declared.fields.Descriptor.{Descriptor}
use Rattle.message_rules.specs.declared.fields.Fields.{Fields}
use Rattle.message_rules.specs.Attributes.{items, values, count_of, octets}
use Rattle.message_rules.specs.Ranges.{required_of}
use Rattle.message_rules.specs.Messages.{code_of, length_of, body_of}
use Rattle.message_rules.specs.Limits.{fields_fit_of, auth_key_fits_of}
use Rattle.message_rules.specs.Standard.{types_of, order_of, same_types_of, ordered, insides_ordered_of, standard}
use Rattle.message_rules.specs.Writing.{params_items_of, descriptor_items_of, descriptors_items, items_of_type, items_of_types, items_of, message, message_of}
use Rattle.message_rules.proofs.CodesLaws.{by_code}
use Rattle.message_rules.proofs.PartsWritten.{params_items, descriptor_items}
use Rattle.message_rules.proofs.DescriptorsWritten.{insides, values_descriptors, values_no_descriptor, length_insides}
use Rattle.message_rules.proofs.FieldsFit.{Shaped, Fit, fit}
use Rattle.message_rules.proofs.WrittenBody.{body_fits}
use Rattle.message_rules.proofs.WrittenRead.{length_back, length_message, items_are}

types_same : (xs : List ℕ) → same_types_of xs xs ≡ true
unfolding same_types_of
types_same [] = refl
types_same (x ∷ xs) = rw (eq-eqb x x refl) (types_same xs)

-- ---- SA-Descriptors
types_descriptors : (ds : List Descriptor) → types_of (descriptors_items ds) ≡ replicate (length ds) 23
unfolding types_of descriptors_items
types_descriptors [] = refl
types_descriptors (d ∷ ds) = ap (λ (l : List ℕ). 23 ∷ l) (types_descriptors ds)

insides_ordered : (ds : List Descriptor) → insides_ordered_of 23 (insides ds) ≡ true
unfolding insides_ordered_of ordered required_of types_of order_of same_types_of count_of values descriptor_items_of
insides_ordered [] = refl
insides_ordered (d ∷ ds) = rw (descriptor_items d) (insides_ordered ds)

module _ (f : Fields) (key digest : List ℕ) (s : Shaped f) (t : Fit f key) where
  abbrev ds : List Descriptor
  ds = take f.count f.descriptors

  types_are : types_of (items_of f key digest) ≡ order_of (λ k. count_of k (items_of f key digest)) (required_of f.code)
  unfolding items_of items_of_types items_of_type required_of types_of order_of count_of values
  types_are =
      by_code (λ c. types_of (items_of_types f key digest (required_of c)) ≡ order_of (λ k. count_of k (items_of_types f key digest (required_of c))) (required_of c))
      refl
      (rw (
        append-nil (descriptors_items ds),
        types_descriptors ds,
        values_descriptors ds,
        length_insides ds,
        values_no_descriptor 7 refl ds,
        values_no_descriptor 9 refl ds,
        values_no_descriptor 10 refl ds,
        append-nil {A = ℕ} (replicate (length ds) 23),
      ))
      refl refl refl refl refl refl refl
      f.code t.low t.high

  params_in_order : insides_ordered_of 13 (values 13 (items_of f key digest)) ≡ true
  unfolding items_of items_of_types items_of_type required_of insides_ordered_of ordered types_of order_of same_types_of count_of values params_items_of
  params_in_order =
      by_code (λ c. insides_ordered_of 13 (values 13 (items_of_types f key digest (required_of c))) ≡ true)
      refl
      (rw (append-nil (descriptors_items ds), values_no_descriptor 13 refl ds))
      refl refl
      (rw (params_items f.older s.older, params_items f.newer s.newer))
      refl refl refl refl
      f.code t.low t.high

  descriptors_in_order : insides_ordered_of 23 (values 23 (items_of f key digest)) ≡ true
  unfolding items_of items_of_types items_of_type required_of insides_ordered_of values
  descriptors_in_order =
      by_code (λ c. insides_ordered_of 23 (values 23 (items_of_types f key digest (required_of c))) ≡ true)
      refl
      (rw (append-nil (descriptors_items ds), values_descriptors ds) (insides_ordered ds))
      refl refl refl refl refl refl refl
      f.code t.low t.high

  module _ (n : length digest ≡ 20) where
    items_read : items (body_of (message_of f key digest)) ≡ items_of f key digest
    items_read = ap (λ (m : List ℕ). items (body_of m)) (sym (append-nil (message_of f key digest))) ∙ items_are f key digest s t n []

    code_read : code_of (message_of f key digest) ≡ f.code
    unfolding message_of message
    code_read = refl

    no_padding : length (message_of f key digest) ≡ 4 + length_of (message_of f key digest)
    unfolding message_of
    no_padding =
        let b = octets (items_of f key digest) in
        let h = body_fits f key digest s t n in
        let none = append-nil (message f.code f.identifier b) in
        let whole = rw none at (length_message f.code f.identifier b [] h) in
        let required = rw none at (length_back f.code f.identifier b [] h) in
        omega arith

-- Just the needed attributes in their order, inner ones too, and no padding
pub written_standard : (f : Fields) (key digest : List ℕ)
    → Shaped f → fields_fit_of f ≡ true → auth_key_fits_of f (length key) ≡ true → length digest ≡ 20
    → standard (message_of f key digest) ≡ true
unfolding standard ordered
written_standard f key digest s e k n =
    let t = fit f key e k in
    rw (
      code_read f key digest s t n,
      items_read f key digest s t n,
      eq-eqb (length (message_of f key digest)) (4 + length_of (message_of f key digest)) (no_padding f key digest s t n),
      params_in_order f key digest s t,
      descriptors_in_order f key digest s t,
      types_are f key digest s t,
      types_same (order_of (λ k. count_of k (items_of f key digest)) (required_of f.code)),
    )

-- The fields that are read of the attributes written of some fields are those fields.
use Prim.Native.Nat.{ℕ, ◌<◌}
use mathlib.Core.Path.{◌≡◌, refl, sym, ◌∙◌}
use mathlib.Core.List.{List, [], ◌∷◌}
use mathlib.Core.Bool.{Bool, true, false, ◌&&◌, cond}
use lib.ListN.{length, get_or, take}
use lib.Seq.{length-take-le}
use lib.Dec.{leb, eqb}
use native.Mathlib.Omega.{arith}
use borrow.Author.Tests.{eqb-true}
use Rattle.questions.proofs.TestLaws.{both}
use Rattle.message_rules.specs.declared.fields.Descriptor.{Descriptor}
use Rattle.message_rules.specs.declared.fields.Fields.{Fields}
use Rattle.message_rules.specs.Attributes.{values, count_of, value_at, be16, be32}
use Rattle.message_rules.specs.Ranges.{is_required_of}
use Rattle.message_rules.specs.Fields.{params_of, descriptor_of, no_descriptor_of, carried, carried_count, fields_of}
use Rattle.message_rules.specs.Limits.{carried_or_of, place_fit_of, descriptors_zero_of, pair_fit_of, params_zero_of}
use Rattle.message_rules.specs.Writing.{items_of_type, items_of}
use Rattle.message_rules.proofs.AttributesLaws.{be16_two, be32_four}
use Rattle.message_rules.proofs.PartsWritten.{params_back, params_none}
use Rattle.message_rules.proofs.FieldsFit.{Shaped, Fit, said_most, life_limits, descriptors_ok, pair_ok, zero_count, zeros}
use Rattle.message_rules.proofs.DescriptorsWritten.{length_insides, DescriptorsFit, place_back}
use Rattle.message_rules.proofs.ItemsWritten.{written_values, written_descriptors}

be16_none : be16 [] ≡ 0
unfolding be16
be16_none = refl

be32_none : be32 [] ≡ 0
unfolding be32
be32_none = refl

four_of : (ds : List Descriptor) → length ds ≡ 4 → get_or ds 0 no_descriptor_of ∷ get_or ds 1 no_descriptor_of ∷ get_or ds 2 no_descriptor_of ∷ get_or ds 3 no_descriptor_of ∷ [] ≡ ds
four_of [] e = absurd (omega arith)
four_of (a ∷ []) e = absurd (omega arith)
four_of (a ∷ b ∷ []) e = absurd (omega arith)
four_of (a ∷ b ∷ c ∷ []) e = absurd (omega arith)
four_of (a ∷ b ∷ c ∷ d ∷ []) e = refl
four_of (a ∷ b ∷ c ∷ d ∷ g ∷ ds) e = absurd (omega arith)

module _ (f : Fields) (key digest : List ℕ) (s : Shaped f) (t : Fit f key) where
  -- ---- the fields
  value_is : (k i : ℕ) → is_required_of f.code k ≡ true → carried f.code k i (items_of f key digest) ≡ get_or (values k (items_of_type f key digest k)) i []
  unfolding carried value_at
  value_is k i h = rw (h, written_values f key digest t.low t.high k h)

  value_none : (k i : ℕ) → is_required_of f.code k ≡ false → carried f.code k i (items_of f key digest) ≡ []
  unfolding carried
  value_none k i h = rw h

  ak_back : get_or (carried f.code 10 0 (items_of f key digest)) 0 0 ≡ f.ak.0
  unfolding values items_of_type
  ak_back = go (is_required_of f.code 10) refl t.ak
    where
      go : (b : Bool) → is_required_of f.code 10 ≡ b → carried_or_of b (leb f.ak.0 15) (eqb f.ak.0 0) ≡ true
          → get_or (carried f.code 10 0 (items_of f key digest)) 0 0 ≡ f.ak.0
      go true h e = rw (value_is 10 0 h)
      go false h e = rw (value_none 10 0 h) (sym (eqb-true f.ak.0 0 e))

  said_back : be16 (carried f.code 12 0 (items_of f key digest)) ≡ f.said
  unfolding values items_of_type
  said_back = go (is_required_of f.code 12) refl t.said
    where
      go : (b : Bool) → is_required_of f.code 12 ≡ b → carried_or_of b (leb f.said 16383) (eqb f.said 0) ≡ true → be16 (carried f.code 12 0 (items_of f key digest)) ≡ f.said
      go true h e = rw (value_is 12 0 h) (be16_two f.said (omega (arith, said_most f key t h)))
      go false h e = rw (value_none 12 0 h) (be16_none ∙ sym (eqb-true f.said 0 e))

  life_back : be32 (carried f.code 9 0 (items_of f key digest)) ≡ f.life
  unfolding values items_of_type
  life_back = go (is_required_of f.code 9) refl t.life
    where
      go : (b : Bool) → is_required_of f.code 9 ≡ b → carried_or_of b (leb 1 f.life && leb f.life 12096000) (eqb f.life 0) ≡ true
          → be32 (carried f.code 9 0 (items_of f key digest)) ≡ f.life
      go true h e = rw (value_is 9 0 h) (be32_four f.life (omega (arith, (life_limits f key t h).1)))
      go false h e = rw (value_none 9 0 h) (be32_none ∙ sym (eqb-true f.life 0 e))

  error_back : get_or (carried f.code 16 0 (items_of f key digest)) 0 0 ≡ f.error
  unfolding values items_of_type
  error_back = go (is_required_of f.code 16) refl t.error
    where
      go : (b : Bool) → is_required_of f.code 16 ≡ b → carried_or_of b true (eqb f.error 0) ≡ true → get_or (carried f.code 16 0 (items_of f key digest)) 0 0 ≡ f.error
      go true h e = rw (value_is 16 0 h)
      go false h e = rw (value_none 16 0 h) (sym (eqb-true f.error 0 e))

  older_back : params_of (carried f.code 13 0 (items_of f key digest)) ≡ f.older
  unfolding values items_of_type
  older_back = go (is_required_of f.code 13) refl t.pair
    where
      go : (b : Bool) → is_required_of f.code 13 ≡ b → carried_or_of b (pair_fit_of f.older f.newer) (params_zero_of f.older && params_zero_of f.newer) ≡ true
          → params_of (carried f.code 13 0 (items_of f key digest)) ≡ f.older
      go true h e = rw (value_is 13 0 h) (params_back f.older s.older (pair_ok f key t h).older)
      go false h e = rw (value_none 13 0 h) (params_none f.older s.older (both (params_zero_of f.older) (params_zero_of f.newer) e).0)

  newer_back : params_of (carried f.code 13 1 (items_of f key digest)) ≡ f.newer
  unfolding values items_of_type
  newer_back = go (is_required_of f.code 13) refl t.pair
    where
      go : (b : Bool) → is_required_of f.code 13 ≡ b → carried_or_of b (pair_fit_of f.older f.newer) (params_zero_of f.older && params_zero_of f.newer) ≡ true
          → params_of (carried f.code 13 1 (items_of f key digest)) ≡ f.newer
      go true h e = rw (value_is 13 1 h) (params_back f.newer s.newer (pair_ok f key t h).newer)
      go false h e = rw (value_none 13 1 h) (params_none f.newer s.newer (both (params_zero_of f.older) (params_zero_of f.newer) e).1)

  count_back : carried_count f.code 23 (items_of f key digest) ≡ f.count
  unfolding carried_count count_of
  count_back = go (is_required_of f.code 23) refl
    where
      go : (b : Bool) → is_required_of f.code 23 ≡ b → cond b (length (values 23 (items_of f key digest))) 0 ≡ f.count
      go true h =
          rw (written_descriptors f key digest t.low t.high h, length_insides (take f.count f.descriptors))
          (length-take-le f.count f.descriptors (omega (arith, s.descriptors, (descriptors_ok f key t h).high)))
      go false h = sym (eqb-true f.count 0 (zero_count f.count f.descriptors (zeros f key t h)).0)

  -- the descriptor at each of the four places
  place_is : (i : ℕ) → i < 4 → ((m : ℕ) → DescriptorsFit m f.descriptors → place_fit_of m i f.descriptors ≡ true)
      → (descriptors_zero_of f.count f.descriptors ≡ true → place_fit_of 0 i f.descriptors ≡ true)
      → descriptor_of (carried f.code 23 i (items_of f key digest)) ≡ get_or f.descriptors i no_descriptor_of
  unfolding carried value_at
  place_is i h here past = go (is_required_of f.code 23) refl
    where
      inside : i < length f.descriptors
      inside = omega (arith, s.descriptors)

      go : (b : Bool) → is_required_of f.code 23 ≡ b → descriptor_of (cond b (get_or (values 23 (items_of f key digest)) i []) []) ≡ get_or f.descriptors i no_descriptor_of
      go true q = rw (written_descriptors f key digest t.low t.high q) (place_back f.count i f.descriptors inside (here f.count (descriptors_ok f key t q)))
      go false q = place_back 0 i f.descriptors inside (past (zeros f key t q))

  descriptors_back :
      descriptor_of (carried f.code 23 0 (items_of f key digest))
      ∷ descriptor_of (carried f.code 23 1 (items_of f key digest))
      ∷ descriptor_of (carried f.code 23 2 (items_of f key digest))
      ∷ descriptor_of (carried f.code 23 3 (items_of f key digest))
      ∷ []
      ≡ f.descriptors
  descriptors_back =
      let z = zero_count f.count f.descriptors in
      rw (
        place_is 0 (omega arith) (λ m d. d.at_0) (λ e. (z e).1),
        place_is 1 (omega arith) (λ m d. d.at_1) (λ e. (z e).2),
        place_is 2 (omega arith) (λ m d. d.at_2) (λ e. (z e).3),
        place_is 3 (omega arith) (λ m d. d.at_3) (λ e. (z e).4),
      )
      (four_of f.descriptors s.descriptors)

  pub fields_back : fields_of f.code f.identifier (items_of f key digest) ≡ f
  unfolding fields_of
  fields_back =
      λ i.
      record {
        code = f.code;
        identifier = f.identifier;
        ak = record { 0 = ak_back i };
        said = said_back i;
        life = life_back i;
        error = error_back i;
        count = count_back i;
        descriptors = descriptors_back i;
        older = older_back i;
        newer = newer_back i;
      }

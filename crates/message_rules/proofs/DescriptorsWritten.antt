-- A list of SA-Descriptors, written and read back.
use Prim.Native.Nat.{ℕ, zero, suc, ◌*◌, ◌≤◌, ◌<◌}
use mathlib.Core.Path.{◌≡◌, refl, ap, ◌∙◌}
use mathlib.Core.List.{List, [], ◌∷◌}
use mathlib.Core.Bool.{Bool, true, false, ◌&&◌, ◌||◌, not}
use lib.ListN.{length, get_or, take, length-append, length-take, get_or-eq_default}
use lib.Dec.{leb, ltb, eqb}
use native.Mathlib.Omega.{arith}
use borrow.Author.Tests.{leb-true, ltb-true, ltb-false, lt-ltb}
use Rattle.questions.proofs.TestLaws.{both}
use Rattle.message_rules.specs.declared.fields.Descriptor.{Descriptor}
use Rattle.message_rules.specs.Attributes.{values, value_at, all_of, octets}
use Rattle.message_rules.specs.Ranges.{is_required_of, fits, compound, good}
use Rattle.message_rules.specs.Messages.{insides_have_required, saids_in_of, different}
use Rattle.message_rules.specs.Fields.{descriptor_of, no_descriptor_of}
use Rattle.message_rules.specs.Limits.{descriptor_fit_of, descriptor_zero_of, carried_or_of, place_fit_of, saids_of, descriptors_fit_of}
use Rattle.message_rules.specs.Writing.{descriptor_items_of, descriptors_items}
use Rattle.message_rules.proofs.AttributesLaws.{Short, be16_two}
use Rattle.message_rules.proofs.HoldsLaws.{length_attr}
use Rattle.message_rules.proofs.PartsWritten.{DescriptorFit, descriptor-fit, descriptor_items, descriptor_length, descriptor_required, descriptor_sound, descriptor_back, descriptor_none}

-- Their insides as octets
abbrev pub insides : List Descriptor → List (List ℕ)
insides [] = []
insides (d ∷ ds) = octets (descriptor_items_of d) ∷ insides ds

abbrev pub AllFit : List Descriptor → Type 0
AllFit [] = Unit {0}
AllFit (d ∷ ds) = DescriptorFit d × AllFit ds

pub values_descriptors : (ds : List Descriptor) → values 23 (descriptors_items ds) ≡ insides ds
unfolding values descriptors_items
values_descriptors [] = refl
values_descriptors (d ∷ ds) = ap (λ (l : List (List ℕ)). octets (descriptor_items_of d) ∷ l) (values_descriptors ds)

pub values_no_descriptor : (k : ℕ) → eqb 23 k ≡ false → (ds : List Descriptor) → values k (descriptors_items ds) ≡ []
unfolding values descriptors_items
values_no_descriptor k e [] = refl
values_no_descriptor k e (d ∷ ds) = rw e (values_no_descriptor k e ds)

pub length_insides : (ds : List Descriptor) → length (insides ds) ≡ length ds
length_insides [] = refl
length_insides (d ∷ ds) = ap suc (length_insides ds)

pub short_descriptors : (ds : List Descriptor) → Short (descriptors_items ds)
unfolding descriptors_items
short_descriptors [] = tt
short_descriptors (d ∷ ds) = (omega (arith, descriptor_length d), short_descriptors ds)

pub length_descriptors : (ds : List Descriptor) → length (octets (descriptors_items ds)) ≡ length ds * 17
unfolding octets descriptors_items
length_descriptors [] = refl
length_descriptors (d ∷ ds) = simp (length-append, length_attr) (omega (arith, descriptor_length d, length_descriptors ds))

-- questions 8 and 9 of them
pub descriptors_sound : (c : ℕ) (ds : List Descriptor) → AllFit ds → all_of (good c) (descriptors_items ds) ≡ true
unfolding all_of good fits compound descriptors_items
descriptors_sound c [] h = refl
descriptors_sound c (d ∷ ds) h = simp (descriptor_sound d h.0) (here (not (is_required_of c 23)) (descriptors_sound c ds h.1))
  where
    here : (b : Bool) {r : Bool} → r ≡ true → (b || true) && r ≡ true
    here true e = e
    here false e = e

pub descriptors_required : (ds : List Descriptor) → insides_have_required 23 (insides ds) ≡ true
unfolding insides_have_required
descriptors_required [] = refl
descriptors_required (d ∷ ds) = rw (descriptor_required d) (descriptors_required ds)

pub descriptors_saids : (ds : List Descriptor) → AllFit ds → saids_in_of (insides ds) ≡ saids_of ds
unfolding saids_in_of saids_of value_at values descriptor_items_of
descriptors_saids [] h = refl
descriptors_saids (d ∷ ds) h = rw (descriptor_items d, be16_two d.said (omega (arith, h.0.said)), descriptors_saids ds h.1)

-- ---- the first n of a list
pub record DescriptorsFit (n : ℕ) (ds : List Descriptor) : Type 0 where
  pub low : 1 ≤ n
  pub high : n ≤ 4
  pub at_0 : place_fit_of n 0 ds ≡ true
  pub at_1 : place_fit_of n 1 ds ≡ true
  pub at_2 : place_fit_of n 2 ds ≡ true
  pub at_3 : place_fit_of n 3 ds ≡ true
  pub differ : different (saids_of (take n ds)) ≡ true

pub descriptors-fit : (n : ℕ) (ds : List Descriptor) → descriptors_fit_of n ds ≡ true → DescriptorsFit n ds
unfolding descriptors_fit_of
descriptors-fit n ds e =
    let a = leb 1 n in
    let b = leb n 4 in
    let p0 = place_fit_of n 0 ds in
    let p1 = place_fit_of n 1 ds in
    let p2 = place_fit_of n 2 ds in
    let p3 = place_fit_of n 3 ds in
    let e6 = both (a && b && p0 && p1 && p2 && p3) (different (saids_of (take n ds))) e in
    let e5 = both (a && b && p0 && p1 && p2) p3 e6.0 in
    let e4 = both (a && b && p0 && p1) p2 e5.0 in
    let e3 = both (a && b && p0) p1 e4.0 in
    let e2 = both (a && b) p0 e3.0 in
    let e1 = both a b e2.0 in
    record { low = leb-true 1 n e1.0; high = leb-true n 4 e1.1; at_0 = e2.1; at_1 = e3.1; at_2 = e4.1; at_3 = e5.1; differ = e6.1 }

place-fit : (n i : ℕ) (ds : List Descriptor) → i < n → place_fit_of n i ds ≡ true → DescriptorFit (get_or ds i no_descriptor_of)
unfolding place_fit_of
place-fit n i ds h e = descriptor-fit (get_or ds i no_descriptor_of) (rw (lt-ltb i n h) at e)

fit_take : (n : ℕ) (ds : List Descriptor) → ((i : ℕ) → i < n → DescriptorFit (get_or ds i no_descriptor_of)) → AllFit (take n ds)
fit_take zero ds h = tt
fit_take (suc n) [] h = tt
fit_take (suc n) (d ∷ ds) h = (h 0 (omega arith), fit_take n ds (λ i q. h (suc i) (omega arith)))

pub all_fit : (n : ℕ) (ds : List Descriptor) → DescriptorsFit n ds → AllFit (take n ds)
all_fit n ds f = fit_take n ds at
  where
    at : (i : ℕ) → i < n → DescriptorFit (get_or ds i no_descriptor_of)
    at zero h = place-fit n 0 ds h f.at_0
    at (suc zero) h = place-fit n 1 ds h f.at_1
    at (suc (suc zero)) h = place-fit n 2 ds h f.at_2
    at (suc (suc (suc zero))) h = place-fit n 3 ds h f.at_3
    at (suc (suc (suc (suc i)))) h = absurd (omega (arith, f.high))

-- what is read at a place: one of the first n as written, and nothing past them
inside_at : (n i : ℕ) (ds : List Descriptor) → i < n → i < length ds → get_or (insides (take n ds)) i [] ≡ octets (descriptor_items_of (get_or ds i no_descriptor_of))
inside_at zero i ds h g = absurd (omega arith)
inside_at (suc n) i [] h g = absurd (omega arith)
inside_at (suc n) zero (d ∷ ds) h g = refl
inside_at (suc n) (suc i) (d ∷ ds) h g = inside_at n i ds (omega arith) (omega arith)

inside_past : (n i : ℕ) (ds : List Descriptor) → n ≤ i → get_or (insides (take n ds)) i [] ≡ []
inside_past n i ds h = get_or-eq_default (insides (take n ds)) [] (rw (length_insides, length-take) (omega arith))

pub place_back : (n i : ℕ) (ds : List Descriptor) → i < length ds → place_fit_of n i ds ≡ true
    → descriptor_of (get_or (insides (take n ds)) i []) ≡ get_or ds i no_descriptor_of
unfolding place_fit_of
place_back n i ds h e = go (ltb i n) refl e
  where
    go : (b : Bool) → ltb i n ≡ b → carried_or_of b (descriptor_fit_of (get_or ds i no_descriptor_of)) (descriptor_zero_of (get_or ds i no_descriptor_of)) ≡ true
        → descriptor_of (get_or (insides (take n ds)) i []) ≡ get_or ds i no_descriptor_of
    go true q f = ap descriptor_of (inside_at n i ds (ltb-true i n q) h) ∙ descriptor_back (get_or ds i no_descriptor_of) (descriptor-fit (get_or ds i no_descriptor_of) f)
    go false q f = ap descriptor_of (inside_past n i ds (ltb-false i n q)) ∙ descriptor_none (get_or ds i no_descriptor_of) f

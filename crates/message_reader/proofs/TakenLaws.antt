-- The fields of a message that is taken, from the pass over its body and the passes over its compounds.
use Prim.Native.Nat.{ℕ, zero, suc, ◌<◌}
use mathlib.Core.Path.{◌≡◌, refl, sym, ap, ◌∙◌}
use mathlib.Core.List.{List, [], ◌∷◌}
use mathlib.Core.Bool.{Bool, true, false, ◌&&◌, cond}
use lib.ListN.{length, get_or, take, drop, replicate}
use lib.Dec.{leb, eqb}
use native.Mathlib.Omega.{arith}
use Rattle.questions.specs.Answer.{Done}
use Rattle.key_traffic.specs.Octets.{padded}
use Rattle.questions.proofs.TestLaws.{both}
use Rattle.message_rules.specs.declared.fields.Place.{Place}
use Rattle.message_rules.specs.declared.fields.Reading.{Reading}
use Rattle.message_rules.specs.Attributes.{Item, items, items_with, values, value_at, count_of, start_from, be16, be32}
use Rattle.message_rules.specs.Ranges.{required_of, is_required_of, among}
use Rattle.message_rules.specs.Fields.{key_octets_of, params_of, descriptor_of, carried, carried_count, fields_of, no_params_of, no_descriptor_of}
use Rattle.message_rules.specs.Reading.{no_place_of, place_of}
use Rattle.message_compounds.specs.declared.compound.Compounds.{Compounds}
use Rattle.message_holders.specs.Slots.{type_slot, no_slot}
use Rattle.message_holders.specs.Pass.{body_pass}
use Rattle.message_compounds.specs.Compounds.{pair_of, four_value, compounds_of}
use Rattle.message_reader.specs.Taken.{once, complete_in, first_of, place_in, taken_from}
use Rattle.message_holders.proofs.SlotLaws.{slot_of, placed}
use Rattle.message_holders.proofs.HitLaws.{true_not_false, type_10, type_12, type_9, type_16, type_7, type_11}
use Rattle.message_holders.proofs.BodyLaws.{slot_at}
use Rattle.message_reader.proofs.PlaceLaws.{up_to5, count_is, inside_0, inside_1, inside_2, inside_3}
use Rattle.message_reader.proofs.CodeLaws.{Code, code_4, code_5, code_6, code_7, code_8, code_9, code_10, code_11, code_12, six_8, six_5}
use Rattle.message_reader.proofs.SoundLaws.{compounds_in_of}

-- ---- a compound that is not there carries nothing
no_descriptor : descriptor_of [] ≡ no_descriptor_of
unfolding descriptor_of value_at values items items_with be16
no_descriptor = refl

no-params : params_of [] ≡ no_params_of
unfolding params_of key_octets_of padded value_at values items items_with be32
no-params = refl

-- ---- a count of at most 4 is told as it is
up_same : (n : ℕ) → leb (up_to5 n) 4 ≡ true → up_to5 n ≡ n
up_same zero e = refl
up_same (suc zero) e = refl
up_same (suc (suc zero)) e = refl
up_same (suc (suc (suc zero))) e = refl
up_same (suc (suc (suc (suc zero)))) e = refl
up_same (suc (suc (suc (suc (suc n))))) e = absurd (true_not_false (sym e))

module _ (m : List ℕ) where
  abbrev l : List Item
  l = items (drop 4 m)

  -- ---- the first value of a plain type, and its place
  module _ (c j t : ℕ) (small : j < 6) (type : (k : ℕ) → eqb (type_slot k) j ≡ eqb k t) where
    first_is : first_of m (body_pass c m) j ≡ carried c t 0 l
    unfolding carried
    first_is = rw (slot_at c j t small type m) (go (is_required_of c t))
      where
        go : (b : Bool) → take (cond b (slot_of 4 t l) no_slot).len (drop (cond b (slot_of 4 t l) no_slot).start m) ≡ cond b (value_at t 0 l) []
        go true = placed t m 4
        go false = refl

    place_is : place_in (body_pass c m) j ≡ place_of c t l
    unfolding place_of
    place_is = rw (slot_at c j t small type m) (go (is_required_of c t))
      where
        go : (b : Bool)
            → ◌≡◌ {A = Place} (record { start = (cond b (slot_of 4 t l) no_slot).start; len = (cond b (slot_of 4 t l) no_slot).len })
            (cond b (record { start = start_from 4 t l; len = length (value_at t 0 l) }) no_place_of)
        go true = refl
        go false = refl

  -- ---- the compounds, code by code
  pub record Carries (c : ℕ) (k : Compounds) : Type 0 where
    pub count-of : k.count ≡ carried_count c 23 l
    pub descriptors_of : k.descriptors
        ≡ descriptor_of (carried c 23 0 l) ∷ descriptor_of (carried c 23 1 l) ∷ descriptor_of (carried c 23 2 l) ∷ descriptor_of (carried c 23 3 l) ∷ []
    pub older_of : k.older ≡ params_of (carried c 13 0 l)
    pub newer_of : k.newer ≡ params_of (carried c 13 1 l)

  carries_none : (c : ℕ) → is_required_of c 23 ≡ false → is_required_of c 13 ≡ false → compounds_in_of c m ≡ record { sound = true; complete = true; count = 0; descriptors = replicate 4 no_descriptor_of; older = no_params_of; newer = no_params_of } → Carries c (compounds_in_of c m)
  unfolding carried carried_count
  carries_none c d p e =
      rw e
      record {
        count-of = rw d refl;
        descriptors_of = rw (d, no_descriptor) refl;
        older_of = rw (p, no-params) refl;
        newer_of = rw (p, no-params) refl;
      }

  carries_8 : Carries 8 (compounds_in_of 8 m)
  unfolding compounds_of pair_of carried carried_count is_required_of among required_of
  carries_8 =
      record {
        count-of = refl;
        descriptors_of = rw no_descriptor refl;
        older_of = rw (inside_0 8 13 six_8 m) refl;
        newer_of = rw (inside_1 8 13 six_8 m) refl;
      }

  few : complete_in 5 (body_pass 5 m) ≡ true → leb (body_pass 5 m).count 4 ≡ true
  unfolding complete_in
  few e =
      let b = body_pass 5 m in
      (both (once b 4 && once b 2 && once b 0 && leb 1 b.count) (leb b.count 4) e).1

  carries_5 : complete_in 5 (body_pass 5 m) ≡ true → Carries 5 (compounds_in_of 5 m)
  unfolding compounds_of four_value carried carried_count is_required_of among required_of
  carries_5 e =
      let count : (body_pass 5 m).count ≡ up_to5 (count_of 23 l) = count_is 5 23 six_5 m in
      let small : leb (up_to5 (count_of 23 l)) 4 ≡ true = ap (λ (n : ℕ). leb n 4) (sym count) ∙ few e in
      record {
        count-of = count ∙ up_same (count_of 23 l) small;
        descriptors_of = rw (inside_0 5 23 six_5 m, inside_1 5 23 six_5 m, inside_2 5 23 six_5 m, inside_3 5 23 six_5 m) refl;
        older_of = sym no-params;
        newer_of = sym no-params;
      }

  carries : {c : ℕ} → Code c → complete_in c (body_pass c m) ≡ true → Carries c (compounds_in_of c m)
  unfolding compounds_of is_required_of among required_of
  carries code_4 e = carries_none 4 refl refl refl
  carries code_5 e = carries_5 e
  carries code_6 e = carries_none 6 refl refl refl
  carries code_7 e = carries_none 7 refl refl refl
  carries code_8 e = carries_8
  carries code_9 e = carries_none 9 refl refl refl
  carries code_10 e = carries_none 10 refl refl refl
  carries code_11 e = carries_none 11 refl refl refl
  carries code_12 e = carries_none 12 refl refl refl

  -- ---- the whole reading
  pub taken_code : {c : ℕ} → Code c → c ≡ get_or m 0 0 → complete_in c (body_pass c m) ≡ true
      → ◌≡◌ {A = Reading} (taken_from m (body_pass c m) (compounds_in_of c m))
      (record { answer = Done; fields = fields_of c (get_or m 1 0) l; key = place_of c 7 l; digest = place_of c 11 l })
  unfolding taken_from fields_of
  taken_code {c} code e complete =
      let k = carries code complete in
      rw (
        ← e,
        first_is c 0 10 (omega arith) type_10,
        first_is c 1 12 (omega arith) type_12,
        first_is c 2 9 (omega arith) type_9,
        first_is c 3 16 (omega arith) type_16,
        place_is c 4 7 (omega arith) type_7,
        place_is c 5 11 (omega arith) type_11,
        k.count-of,
        k.descriptors_of,
        k.older_of,
        k.newer_of,
      ) refl

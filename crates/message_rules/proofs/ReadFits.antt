-- What the reader took the writer accepts: the fields of an accepted message are within the limits of fields to be written.
use Prim.Native.Nat.{ℕ, ◌<◌}
use mathlib.Core.Path.{◌≡◌, refl}
use mathlib.Core.List.{List, [], ◌∷◌}
use mathlib.Core.Bool.{Bool, true, false, ◌&&◌, ◌||◌, not, cond}
use lib.ListN.{length, get_or, get_or-eq_default}
use lib.Dec.{leb, ltb, eqb}
use native.Mathlib.Omega.{arith}
use borrow.Author.Tests.{ltb-true, ltb-false, eqb-true, le-leb, ne_eqb}
use Rattle.questions.proofs.TestLaws.{both}
use Rattle.questions.specs.Answer.{Done}
use Rattle.key_traffic.specs.Octets.{padded, all_zero, zero_past_of}
use Rattle.message_rules.specs.declared.fields.Descriptor.{Descriptor}
use Rattle.message_rules.specs.declared.fields.Params.{Params}
use Rattle.message_rules.specs.declared.fields.Place.{Place}
use Rattle.message_rules.specs.declared.fields.Receiver.{Receiver}
use Rattle.message_rules.specs.Attributes.{Item, items, items_with, values, count_of, value_at, start_from, be16, be32}
use Rattle.message_rules.specs.Ranges.{is_required_of, longest_life_of, fits}
use Rattle.message_rules.specs.Messages.{code_of, identifier_of, body_of, in_order_of, message_answer, reader_answer_of}
use Rattle.message_rules.specs.Fields.{key_octets_of, params_of, descriptor_of, carried, carried_count, fields_of}
use Rattle.message_rules.specs.Reading.{no_place_of, place_of, taken_of}
use Rattle.message_rules.specs.Limits.{carried_or_of, key_octets_zero_of, params_fit_of, params_zero_of, pair_fit_of, descriptor_fit_of, descriptor_zero_of, place_fit_of, descriptors_fit_of, descriptors_zero_of, head_fits_of, fields_fit_of, auth_key_fits_of}
use Rattle.key_traffic.proofs.OctetsLaws.{padded_length}
use Rattle.message_rules.proofs.MessageAnswers.{reader_done}
use Rattle.message_rules.proofs.FieldsFit.{Shaped}
use Rattle.message_rules.proofs.PartsRead.{params_read_fit}
use Rattle.message_rules.proofs.DescriptorsRead.{four_value, take_four, saids_read, descriptor_read_fit}
use Rattle.message_rules.proofs.TakenLaws.{Taken, taken, up_to_four, first_fits, inside_13, inside_23, told_13, told_23}

module _ (c : ℕ) (l : List Item) (t : Taken c l) where
  ak_fit : carried_or_of (is_required_of c 10) (leb (get_or (carried c 10 0 l) 0 0) 15) (eqb (get_or (carried c 10 0 l) 0 0) 0) ≡ true
  unfolding carried fits
  ak_fit = go (is_required_of c 10) refl
    where
      go : (b : Bool) → is_required_of c 10 ≡ b → carried_or_of b (leb (get_or (cond b (value_at 10 0 l) []) 0 0) 15) (eqb (get_or (cond b (value_at 10 0 l) []) 0 0) 0) ≡ true
      go true h = (both (eqb (length (value_at 10 0 l)) 1) (leb (get_or (value_at 10 0 l) 0 0) 15) (first_fits c l t 10 refl refl h)).1
      go false h = refl

  said_fit : carried_or_of (is_required_of c 12) (leb (be16 (carried c 12 0 l)) 16383) (eqb (be16 (carried c 12 0 l)) 0) ≡ true
  unfolding carried fits be16
  said_fit = go (is_required_of c 12) refl
    where
      go : (b : Bool) → is_required_of c 12 ≡ b → carried_or_of b (leb (be16 (cond b (value_at 12 0 l) [])) 16383) (eqb (be16 (cond b (value_at 12 0 l) [])) 0) ≡ true
      go true h = (both (eqb (length (value_at 12 0 l)) 2) (leb (be16 (value_at 12 0 l)) 16383) (first_fits c l t 12 refl refl h)).1
      go false h = refl

  pub life_ranged : is_required_of c 9 ≡ true → (length (value_at 9 0 l) ≡ 4) × (leb 1 (be32 (value_at 9 0 l)) && leb (be32 (value_at 9 0 l)) 12096000 ≡ true)
  unfolding fits longest_life_of
  life_ranged h =
      let a = eqb (length (value_at 9 0 l)) 4 in
      let b = leb 1 (be32 (value_at 9 0 l)) in
      let most : longest_life_of c ≡ 12096000 = rw (ne_eqb c 13 (λ q. omega (arith, t.high))) in
      let e2 = both (a && b) (leb (be32 (value_at 9 0 l)) (longest_life_of c)) (first_fits c l t 9 refl refl h) in
      let e1 = both a b e2.0 in
      let low : b ≡ true = e1.1 in
      let high : leb (be32 (value_at 9 0 l)) 12096000 ≡ true = rw most at e2.1 in
      (eqb-true (length (value_at 9 0 l)) 4 e1.0, rw (low, high))

  life_fit : carried_or_of (is_required_of c 9) (leb 1 (be32 (carried c 9 0 l)) && leb (be32 (carried c 9 0 l)) 12096000) (eqb (be32 (carried c 9 0 l)) 0) ≡ true
  unfolding carried be32
  life_fit = go (is_required_of c 9) refl
    where
      go : (b : Bool) → is_required_of c 9 ≡ b
          → carried_or_of b (leb 1 (be32 (cond b (value_at 9 0 l) [])) && leb (be32 (cond b (value_at 9 0 l) [])) 12096000) (eqb (be32 (cond b (value_at 9 0 l) [])) 0) ≡ true
      go true h = (life_ranged h).1
      go false h = refl

  error_fit : carried_or_of (is_required_of c 16) true (eqb (get_or (carried c 16 0 l) 0 0) 0) ≡ true
  unfolding carried
  error_fit = go (is_required_of c 16)
    where
      go : (b : Bool) → carried_or_of b true (eqb (get_or (cond b (value_at 16 0 l) []) 0 0) 0) ≡ true
      go true = refl
      go false = refl

  -- the descriptor at a place: read, or none
  place-fit : (i : ℕ) → is_required_of c 23 ≡ true
      → carried_or_of (ltb i (length (values 23 l))) (descriptor_fit_of (descriptor_of (get_or (values 23 l) i []))) (descriptor_zero_of (descriptor_of (get_or (values 23 l) i []))) ≡ true
  unfolding value_at count_of descriptor_zero_of descriptor_of items items_with values be16
  place-fit i h = go (ltb i (length (values 23 l))) refl
    where
      go : (b : Bool) → ltb i (length (values 23 l)) ≡ b
          → carried_or_of b (descriptor_fit_of (descriptor_of (get_or (values 23 l) i []))) (descriptor_zero_of (descriptor_of (get_or (values 23 l) i []))) ≡ true
      go true q =
          let less : i < length (values 23 l) = ltb-true i (length (values 23 l)) q in
          descriptor_read_fit (get_or (values 23 l) i []) (inside_23 c l t i h less) (told_23 c l t i h less)
      go false q = rw (get_or-eq_default (values 23 l) [] (ltb-false i (length (values 23 l)) q))

  abbrev place_read : ℕ → Type 0
  place_read i = place_fit_of (length (values 23 l)) i (four_value (values 23 l)) ≡ true

  places : is_required_of c 23 ≡ true → place_read 0 × place_read 1 × place_read 2 × place_read 3
  unfolding place_fit_of
  places h = (place-fit 0 h, place-fit 1 h, place-fit 2 h, place-fit 3 h)

  descriptors_ok : is_required_of c 23 ≡ true → descriptors_fit_of (length (values 23 l)) (four_value (values 23 l)) ≡ true
  unfolding descriptors_fit_of count_of
  descriptors_ok h =
      let n = up_to_four c l t h in
      let p = places h in
      rw (le-leb 1 (length (values 23 l)) n.0, le-leb (length (values 23 l)) 4 n.1, p.0, p.1, p.2, p.3, take_four (values 23 l) n.1, saids_read (values 23 l))
      (t.differ h)

  abbrev carried_four : List Descriptor
  carried_four = descriptor_of (carried c 23 0 l) ∷ descriptor_of (carried c 23 1 l) ∷ descriptor_of (carried c 23 2 l) ∷ descriptor_of (carried c 23 3 l) ∷ []

  yes_23 : is_required_of c 23 ≡ true → descriptors_fit_of (carried_count c 23 l) carried_four ≡ true
  unfolding carried carried_count value_at count_of
  yes_23 h = rw h (descriptors_ok h)

  no_23 : is_required_of c 23 ≡ false → descriptors_zero_of (carried_count c 23 l) carried_four ≡ true
  unfolding carried carried_count descriptors_zero_of place_fit_of descriptor_zero_of descriptor_of items items_with value_at values be16
  no_23 h = rw h

  descriptors-fit : carried_or_of (is_required_of c 23) (descriptors_fit_of (carried_count c 23 l) carried_four) (descriptors_zero_of (carried_count c 23 l) carried_four) ≡ true
  descriptors-fit = go (is_required_of c 23) refl
    where
      go : (b : Bool) → is_required_of c 23 ≡ b → carried_or_of b (descriptors_fit_of (carried_count c 23 l) carried_four) (descriptors_zero_of (carried_count c 23 l) carried_four) ≡ true
      go true h = yes_23 h
      go false h = no_23 h

  abbrev carried_pair : ℕ → Params
  carried_pair n = params_of (carried c 13 n l)

  yes_13 : is_required_of c 13 ≡ true → pair_fit_of (carried_pair 0) (carried_pair 1) ≡ true
  unfolding carried pair_fit_of in_order_of params_of
  yes_13 h =
      let a : params_fit_of (params_of (value_at 13 0 l)) ≡ true = params_read_fit (value_at 13 0 l) (inside_13 c l t 0 h (omega arith)) (told_13 c l t 0 h (omega arith)) in
      let b : params_fit_of (params_of (value_at 13 1 l)) ≡ true = params_read_fit (value_at 13 1 l) (inside_13 c l t 1 h (omega arith)) (told_13 c l t 1 h (omega arith)) in
      rw (h, a, b) (t.order h)

  no_13 : is_required_of c 13 ≡ false → params_zero_of (carried_pair 0) && params_zero_of (carried_pair 1) ≡ true
  unfolding carried params_zero_of params_of key_octets_zero_of key_octets_of padded zero_past_of all_zero items items_with value_at values be32
  no_13 h = rw h

  pair-fit : carried_or_of (is_required_of c 13) (pair_fit_of (carried_pair 0) (carried_pair 1)) (params_zero_of (carried_pair 0) && params_zero_of (carried_pair 1)) ≡ true
  pair-fit = go (is_required_of c 13) refl
    where
      go : (b : Bool) → is_required_of c 13 ≡ b → carried_or_of b (pair_fit_of (carried_pair 0) (carried_pair 1)) (params_zero_of (carried_pair 0) && params_zero_of (carried_pair 1)) ≡ true
      go true h = yes_13 h
      go false h = no_13 h

  fields_fit : (i : ℕ) → head_fits_of c i ≡ true → fields_fit_of (fields_of c i l) ≡ true
  unfolding fields_fit_of fields_of
  fields_fit i h = rw (h, ak_fit, said_fit, life_fit, error_fit, descriptors-fit, pair-fit)

  auth_fit : (i : ℕ) → auth_key_fits_of (fields_of c i l) (place_of c 7 l).len ≡ true
  unfolding auth_key_fits_of fields_of place_of fits
  auth_fit i = go (is_required_of c 7) refl
    where
      place : Bool → Place
      place b = cond b (record { start = start_from 4 7 l; len = length (value_at 7 0 l) }) no_place_of

      go : (b : Bool) → is_required_of c 7 ≡ b → not b || (leb 1 (place b).len && leb (place b).len 256) ≡ true
      go true h = first_fits c l t 7 refl refl h
      go false h = refl

-- The fields and the AUTH-Key of an accepted message may be written
pub read_fits : (e : Receiver) (s : List ℕ) → message_answer e s ≡ Done → head_fits_of (code_of s) (identifier_of s) ≡ true
    → (fields_fit_of (taken_of s).fields ≡ true) × (auth_key_fits_of (taken_of s).fields (taken_of s).key.len ≡ true)
unfolding taken_of
read_fits e s d h =
    let t = taken e s d in
    (fields_fit (code_of s) (items (body_of s)) t (identifier_of s) h, auth_fit (code_of s) (items (body_of s)) t (identifier_of s))

-- and so may those of every message that the reader by itself took
pub reader_fits : (e : Receiver) (s : List ℕ) → reader_answer_of e s ≡ Done
    → (fields_fit_of (taken_of s).fields ≡ true) × (auth_key_fits_of (taken_of s).fields (taken_of s).key.len ≡ true)
unfolding head_fits_of
reader_fits e s d =
    let r = (reader_done e s).0 d in
    let t = taken e s r.0 in
    read_fits e s r.0 (rw (le-leb 4 (code_of s) t.low, le-leb (code_of s) 12 t.high, r.1))

-- and their arrays have the declared lengths
pub read_shaped : (s : List ℕ) → Shaped (taken_of s).fields
unfolding taken_of fields_of params_of key_octets_of
read_shaped s =
    record {
      descriptors = refl;
      older = record { tek = padded_length _; vector = padded_length _ };
      newer = record { tek = padded_length _; vector = padded_length _ };
    }

-- The fields of a reading are within what their octets hold: laid out for C, they are taken back as they were.
use Prim.Native.Nat.{ℕ, ◌<◌}
use mathlib.Core.Path.{◌≡◌, refl, sym, ap, ◌∙◌}
use mathlib.Core.List.{List, [], ◌∷◌, ◌++◌, append_assoc}
use mathlib.Core.Bool.{Bool, true, false, cond}
use native.Mathlib.Omega.{arith}
use lib.Dec.{eqb}
use lib.ListN.{get_or, drop}
use lib.Seq.{get_or-drop, drop_at}
use Rattle.questions.specs.Answer.{Answer, Done, Refused}
use Rattle.message_rules.specs.declared.fields.Params.{Params}
use Rattle.message_rules.specs.declared.fields.Reading.{Reading}
use Rattle.message_rules.specs.declared.fields.Receiver.{Receiver}
use Rattle.message_rules.specs.Attributes.{Item, items, items_with, values, count_of, value_at, be16, be32, two}
use Rattle.message_rules.specs.Ranges.{is_required_of}
use Rattle.message_rules.specs.Messages.{code_of, identifier_of, length_of, body_of, message_answer}
use Rattle.message_rules.specs.Fields.{key_octets_of, params_of, descriptor_of, carried, carried_count, fields_of, no_descriptor_of, no_params_of, no_fields}
use Rattle.message_rules.specs.Reading.{taken_of, reading_for, read_of}
use Rattle.message_rules.proofs.AttributesLaws.{Octets, octets_take, octets_drop, octet_below}
use Rattle.message_rules.proofs.PartsWritten.{ParamsFit, params_fit, width_most}
use Rattle.message_rules.proofs.PartsRead.{OctetItems, octet_items, octet_value, params_read_fit}
use Rattle.message_rules.proofs.TakenLaws.{Taken, taken, up_to_four, inside_13, told_13}
use Rattle.message_rules.proofs.FieldsFit.{Shaped}
use Rattle.message_rules.proofs.ReadFits.{read_shaped}
use Rattle.c_layout.specs.Layout.{fields_octets, place_laid, holds_octet_of, reading_octets, fields_from_of}
use Rattle.c_layout.proofs.LayoutLaws.{ParamsHeld, DescriptorHeld, Held, length_fields, fields_back}

-- ---- numbers of octets
be16_below : (v : List ℕ) → Octets v → be16 v < 65536
unfolding be16
be16_below v o = omega (arith, octet_below v 0 o, octet_below v 1 o)

be32_below : (v : List ℕ) → Octets v → be32 v < 4294967296
unfolding be32
be32_below v o = omega (arith, octet_below v 0 o, octet_below v 1 o, octet_below v 2 o, octet_below v 3 o)

descriptor_held : (v : List ℕ) → Octets v → DescriptorHeld (descriptor_of v)
unfolding descriptor_of
descriptor_held v o =
    let l = octet_items v o in
    record {
      said = be16_below (value_at 12 0 (items v)) (octet_value 12 0 (items v) l);
      suite = be16_below (value_at 20 0 (items v)) (octet_value 20 0 (items v) l);
    }

params_held : (p : Params) → ParamsFit p → ParamsHeld p
params_held p f =
    record {
      life = omega (arith, f.high);
      tek = omega (arith, width_most p.tek.width f.tek);
      vector = omega (arith, width_most p.vector.width f.vector);
    }

no_params_held : ParamsHeld (params_of [])
unfolding params_of key_octets_of items items_with value_at values be32
no_params_held = record { life = omega arith; tek = omega arith; vector = omega arith }

-- ---- what the attributes of an accepted message carry
module _ (c : ℕ) (l : List Item) (t : Taken c l) (o : OctetItems l) where
  carried_octets : (k n : ℕ) → Octets (carried c k n l)
  unfolding carried
  carried_octets k n = go (is_required_of c k)
    where
      go : (b : Bool) → Octets (cond b (value_at k n l) [])
      go true = octet_value k n l o
      go false = tt

  count_held : carried_count c 23 l < 256
  unfolding carried_count
  count_held = go (is_required_of c 23) refl
    where
      go : (b : Bool) → is_required_of c 23 ≡ b → cond b (count_of 23 l) 0 < 256
      go true h = omega (arith, (up_to_four c l t h).1)
      go false h = omega arith

  carried_params : (n : ℕ) → n < 2 → ParamsHeld (params_of (carried c 13 n l))
  unfolding carried
  carried_params n i = go (is_required_of c 13) refl
    where
      go : (b : Bool) → is_required_of c 13 ≡ b → ParamsHeld (params_of (cond b (value_at 13 n l) []))
      go true h =
          let v = value_at 13 n l in
          params_held (params_of v) (params_fit (params_of v) (params_read_fit v (inside_13 c l t n h i) (told_13 c l t n h i)))
      go false h = no_params_held

  fields_held : (i : ℕ) → Held (fields_of c i l)
  unfolding fields_of
  fields_held i =
      record {
        said = be16_below (carried c 12 0 l) (carried_octets 12 0);
        life = be32_below (carried c 9 0 l) (carried_octets 9 0);
        count = count_held;
        first = descriptor_held (carried c 23 0 l) (carried_octets 23 0);
        second = descriptor_held (carried c 23 1 l) (carried_octets 23 1);
        third = descriptor_held (carried c 23 2 l) (carried_octets 23 2);
        fourth = descriptor_held (carried c 23 3 l) (carried_octets 23 3);
        older = carried_params 0 (omega arith);
        newer = carried_params 1 (omega arith);
      }

-- The fields of an accepted message
pub read_held : (e : Receiver) (s : List ℕ) → Octets s → message_answer e s ≡ Done → Held (taken_of s).fields
unfolding taken_of body_of
read_held e s o d =
    fields_held (code_of s) (items (body_of s)) (taken e s d) (octet_items (body_of s) (octets_take (length_of s) (drop 4 s) (octets_drop 4 s o))) (identifier_of s)

-- ---- a reading, laid out and taken back
laid_back : (r : Reading) (t : Bool) → Shaped r.fields → Held r.fields → (rest : List ℕ) → fields_from_of (reading_octets r t ++ rest) ≡ r.fields
unfolding reading_octets
laid_back r t s h rest =
    let more = place_laid r.key ++ (place_laid r.digest ++ (holds_octet_of t ∷ [])) in
    ap fields_from_of (append_assoc (fields_octets r.fields) more rest) ∙ fields_back r.fields s h (more ++ rest)

-- the octet after the fields and the two places
told_back : (r : Reading) (t : Bool) → Shaped r.fields → (rest : List ℕ) → get_or (reading_octets r t ++ rest) 117 0 ≡ holds_octet_of t
unfolding reading_octets place_laid two
told_back r t s rest =
    let more = place_laid r.key ++ (place_laid r.digest ++ (holds_octet_of t ∷ [])) in
    ap (λ (l : List ℕ). get_or l 117 0) (append_assoc (fields_octets r.fields) more rest)
    ∙ sym (get_or-drop 109 (fields_octets r.fields ++ (more ++ rest)) 8 0)
    ∙ ap (λ (l : List ℕ). get_or l 8 0) (drop_at (fields_octets r.fields) (more ++ rest) 109 (length_fields r.fields s))

no_fields_held : Held no_fields
no_fields_held =
    let d : DescriptorHeld no_descriptor_of = record { said = omega arith; suite = omega arith } in
    let p : ParamsHeld no_params_of = record { life = omega arith; tek = omega arith; vector = omega arith } in
    record { said = omega arith; life = omega arith; count = omega arith; first = d; second = d; third = d; fourth = d; older = p; newer = p }

refused_shaped : Shaped no_fields
refused_shaped = record { descriptors = refl; older = record { tek = refl; vector = refl }; newer = record { tek = refl; vector = refl } }

-- The octets of any reading, also of one that refuses, whatever follows them, are its fields
pub reading_back : (e : Receiver) (s : List ℕ) (t : Bool) (rest : List ℕ) → Octets s → fields_from_of (reading_octets (read_of e s) t ++ rest) ≡ (read_of e s).fields
unfolding read_of
reading_back e s t rest o = go (message_answer e s) refl
  where
    go : (a : Answer) → message_answer e s ≡ a → fields_from_of (reading_octets (reading_for a s) t ++ rest) ≡ (reading_for a s).fields
    go Done h = laid_back (taken_of s) t (read_shaped s) (read_held e s o h) rest
    go (Refused r) h =
        laid_back (reading_for (Refused r) s) t refused_shaped no_fields_held rest

-- And the octet at 117 tells whether the digest holds
pub reading_told : (e : Receiver) (s : List ℕ) (t : Bool) (rest : List ℕ) → eqb (get_or (reading_octets (read_of e s) t ++ rest) 117 0) 1 ≡ t
unfolding read_of
reading_told e s t rest = ap (λ (n : ℕ). eqb n 1) (go (message_answer e s)) ∙ told t
  where
    go : (a : Answer) → get_or (reading_octets (reading_for a s) t ++ rest) 117 0 ≡ holds_octet_of t
    go Done = told_back (taken_of s) t (read_shaped s) rest
    go (Refused r) = told_back (reading_for (Refused r) s) t refused_shaped rest

    told : (b : Bool) → eqb (holds_octet_of b) 1 ≡ b
    told true = refl
    told false = refl

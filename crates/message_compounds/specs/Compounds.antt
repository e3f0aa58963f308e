-- What the reader takes from the insides of a message's compounds, by the places of the first four.
use Rattle.std.specs.Prelude.{ℕ, ◌+◌, ◌%◌, List, [], ◌∷◌, Bool, true, ◌&&◌, ◌||◌, not, cond, get_or, take, drop, replicate, leb, ltb, eqb}
use Rattle.message_rules.specs.declared.fields.Place.{Place}
use Rattle.message_rules.specs.declared.fields.Params.{Params}
use Rattle.message_rules.specs.Attributes.{items}
use Rattle.message_rules.specs.Ranges.{required_of, inside_sound}
use Rattle.message_rules.specs.Messages.{has_required}
use Rattle.message_rules.specs.Fields.{params_of, descriptor_of, no_params_of, no_descriptor_of}
use Rattle.message_rules.specs.Reading.{no_place_of}
use Rattle.message_rules.specs.declared.fields.Descriptor.{Descriptor}
use Rattle.message_compounds.specs.declared.compound.Read.{Read}
use Rattle.message_compounds.specs.declared.compound.Compounds.{Compounds}

-- A part of a message
abbrev pub part_of : List ℕ → Place → List ℕ
part_of m p = take p.len (drop p.start m)

-- The inside of the compound with i before it
unfoldable pub inside_at_of : List ℕ → List Place → ℕ → List ℕ
inside_at_of m at i = part_of m (get_or at i no_place_of)

-- ---- one compound
abbrev pub params_read : List ℕ → Read Params
params_read v = record { sound = inside_sound 13 v; complete = has_required (required_of 13) (items v); fields = params_of v }

abbrev pub descriptor_read : List ℕ → Read Descriptor
descriptor_read v = record { sound = inside_sound 23 v; complete = has_required (required_of 23) (items v); fields = descriptor_of v }

-- ---- a Key Reply's
unfoldable pub in_order_value : Params → Params → Bool
in_order_value older newer = eqb newer.number.0 ((older.number.0 + 1) % 16) && ltb older.life newer.life

unfoldable pub rest_sound_of : List ℕ → ℕ → List Place → Bool
rest_sound_of m count at = cond (leb count 2) true (inside_sound 13 (inside_at_of m at 2) && inside_sound 13 (inside_at_of m at 3))

abbrev pub pair_from : Read Params → Read Params → Bool → Compounds
pair_from o n rest =
    record {
      sound = o.sound && n.sound && rest;
      complete = o.complete && n.complete && in_order_value o.fields n.fields;
      count = 0;
      descriptors = replicate 4 no_descriptor_of;
      older = o.fields;
      newer = n.fields;
    }

unfoldable pub pair_of : List ℕ → ℕ → List Place → Compounds
pair_of m count at = pair_from (params_read (inside_at_of m at 0)) (params_read (inside_at_of m at 1)) (rest_sound_of m count at)

-- ---- an Authorization Reply's
unfoldable pub four_complete : ℕ → Read Descriptor → Read Descriptor → Read Descriptor → Read Descriptor → Bool
four_complete n v w x y =
    (leb n 0 || v.complete)
    && (leb n 1 || w.complete)
    && (leb n 2 || x.complete)
    && (leb n 3 || y.complete)
    && (leb n 1 || not (eqb v.fields.said w.fields.said))
    && (leb n 2 || not (eqb v.fields.said x.fields.said))
    && (leb n 3 || not (eqb v.fields.said y.fields.said))
    && (leb n 2 || not (eqb w.fields.said x.fields.said))
    && (leb n 3 || not (eqb w.fields.said y.fields.said))
    && (leb n 3 || not (eqb x.fields.said y.fields.said))

abbrev pub four_from : ℕ → Read Descriptor → Read Descriptor → Read Descriptor → Read Descriptor → Compounds
four_from count v w x y =
    record {
      sound = v.sound && w.sound && x.sound && y.sound;
      complete = four_complete count v w x y;
      count = count;
      descriptors = v.fields ∷ w.fields ∷ x.fields ∷ y.fields ∷ [];
      older = no_params_of;
      newer = no_params_of;
    }

unfoldable pub four_value : List ℕ → ℕ → List Place → Compounds
four_value m count at =
    four_from count
    (descriptor_read (inside_at_of m at 0))
    (descriptor_read (inside_at_of m at 1))
    (descriptor_read (inside_at_of m at 2))
    (descriptor_read (inside_at_of m at 3))

-- ---- by the code
abbrev pub no_compounds_of : Compounds
no_compounds_of =
    record { sound = true; complete = true; count = 0; descriptors = replicate 4 no_descriptor_of; older = no_params_of; newer = no_params_of }

unfoldable pub compounds_of : ℕ → List ℕ → ℕ → List Place → Compounds
compounds_of c m count at = cond (eqb c 8) (pair_of m count at) (cond (eqb c 5) (four_value m count at) no_compounds_of)

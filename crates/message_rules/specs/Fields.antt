-- The fields that a message's attributes carry (document 01, "Messages"). What a code does not carry is zero.
use Rattle.std.specs.Prelude.{ℕ, List, [], ◌∷◌, cond, length, get_or, replicate}
use Rattle.key_traffic.specs.Octets.{padded}
use Rattle.message_rules.specs.declared.fields.KeyOctets.{KeyOctets}
use Rattle.message_rules.specs.declared.fields.Params.{Params}
use Rattle.message_rules.specs.declared.fields.Descriptor.{Descriptor}
use Rattle.message_rules.specs.declared.fields.Fields.{Fields}
use Rattle.message_rules.specs.Attributes.{Item, items, count_of, value_at, be16, be32}
use Rattle.message_rules.specs.Ranges.{is_required_of}

-- A TEK's or a vector's own octets, then zeros
unfoldable pub key_octets_of : List ℕ → KeyOctets
key_octets_of v = record { width = length v; octets = padded v }

-- TEK-Parameters from the octets of its inside
unfoldable pub params_of : List ℕ → Params
params_of v =
    record {
      number = record { 0 = get_or (value_at 10 0 (items v)) 0 0 };
      life = be32 (value_at 9 0 (items v));
      tek = key_octets_of (value_at 8 0 (items v));
      vector = key_octets_of (value_at 15 0 (items v));
    }

-- SA-Descriptor from the octets of its inside
unfoldable pub descriptor_of : List ℕ → Descriptor
descriptor_of v =
    record {
      said = be16 (value_at 12 0 (items v));
      kind = get_or (value_at 24 0 (items v)) 0 0;
      suite = be16 (value_at 20 0 (items v));
    }

-- The n-th value of a type that the code needs; no octets where it does not
unfoldable pub carried : ℕ → ℕ → ℕ → List Item → List ℕ
carried c k n l = cond (is_required_of c k) (value_at k n l) []

unfoldable pub carried_count : ℕ → ℕ → List Item → ℕ
carried_count c k l = cond (is_required_of c k) (count_of k l) 0

unfoldable pub fields_of : ℕ → ℕ → List Item → Fields
fields_of c identifier l =
    record {
      code = c;
      identifier = identifier;
      ak = record { 0 = get_or (carried c 10 0 l) 0 0 };
      said = be16 (carried c 12 0 l);
      life = be32 (carried c 9 0 l);
      error = get_or (carried c 16 0 l) 0 0;
      count = carried_count c 23 l;
      descriptors =
          descriptor_of (carried c 23 0 l)
          ∷ descriptor_of (carried c 23 1 l)
          ∷ descriptor_of (carried c 23 2 l)
          ∷ descriptor_of (carried c 23 3 l)
          ∷ [];
      older = params_of (carried c 13 0 l);
      newer = params_of (carried c 13 1 l);
    }

-- ---- nothing carried
abbrev pub no_octets_of : KeyOctets
no_octets_of = record { width = 0; octets = replicate 16 0 }

abbrev pub no_params_of : Params
no_params_of = record { number = record { 0 = 0 }; life = 0; tek = no_octets_of; vector = no_octets_of }

abbrev pub no_descriptor_of : Descriptor
no_descriptor_of = record { said = 0; kind = 0; suite = 0 }

abbrev pub no_fields : Fields
no_fields =
    record {
      code = 0;
      identifier = 0;
      ak = record { 0 = 0 };
      said = 0;
      life = 0;
      error = 0;
      count = 0;
      descriptors = replicate 4 no_descriptor_of;
      older = no_params_of;
      newer = no_params_of;
    }

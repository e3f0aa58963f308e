-- The fields of a message in octets, for C: 109 of them, and 118 with the places of the AUTH-Key and of the digest and whether the digest holds.
-- Numbers are big-endian. Places: 0 code, 1 identifier, 2 authorization key number, 3 error, 4 count of descriptors, 5 SAID, 7 life,
-- 11 four descriptors of 5, 31 older TEK-Parameters of 39, 70 newer, 109 the AUTH-Key's place, 113 the digest's place, 117 whether it holds.
use Rattle.std.specs.Prelude.{ℕ, ◌%◌, Bool, true, false, List, [], ◌∷◌, ◌++◌, get_or, take, drop}
use Rattle.key_traffic.specs.Octets.{octets_value}
use Rattle.message_rules.specs.declared.fields.KeyOctets.{KeyOctets}
use Rattle.message_rules.specs.declared.fields.Params.{Params}
use Rattle.message_rules.specs.declared.fields.Descriptor.{Descriptor}
use Rattle.message_rules.specs.declared.fields.Fields.{Fields}
use Rattle.message_rules.specs.declared.fields.Place.{Place}
use Rattle.message_rules.specs.declared.fields.Reading.{Reading}
use Rattle.message_rules.specs.Attributes.{be16, be32, two, four}

-- ---- as octets

-- 17: the width, then all 16 octets
unfoldable pub key_laid : KeyOctets → List ℕ
key_laid k = k.width % 256 ∷ k.octets

-- 39: number, life, TEK, vector
unfoldable pub params_laid : Params → List ℕ
params_laid p = (p.number.0 ∷ four p.life) ++ (key_laid p.tek ++ key_laid p.vector)

-- 5: SAID, SA type, suite
unfoldable pub descriptor_laid : Descriptor → List ℕ
descriptor_laid d = two d.said ++ (d.kind ∷ two d.suite)

unfoldable pub descriptors_laid : List Descriptor → List ℕ
descriptors_laid [] = []
descriptors_laid (d ∷ ds) = descriptor_laid d ++ descriptors_laid ds

-- 11: what stands before the descriptors
unfoldable pub head_laid : Fields → List ℕ
head_laid f =
    (f.code ∷ f.identifier ∷ f.ak.0 ∷ f.error ∷ f.count % 256 ∷ [])
    ++ (two f.said ++ four f.life)

-- 109
unfoldable pub fields_octets : Fields → List ℕ
fields_octets f = head_laid f ++ (descriptors_laid f.descriptors ++ (params_laid f.older ++ params_laid f.newer))

-- 4: where it starts, and its length
unfoldable pub place_laid : Place → List ℕ
place_laid p = two p.start ++ two p.len

-- Whether the digest of the message that was read holds under the key; 0 too where it has none
abbrev pub holds_octet_of : Bool → ℕ
holds_octet_of true = 1
holds_octet_of false = 0

-- 118
unfoldable pub reading_octets : Reading → Bool → List ℕ
reading_octets r holds =
    fields_octets r.fields ++ (place_laid r.key ++ (place_laid r.digest ++ (holds_octet_of holds ∷ [])))

-- ---- from octets; past the end they are 0

abbrev pub part_at : ℕ → ℕ → List ℕ → List ℕ
part_at at n s = take n (drop at s)

unfoldable pub key_from_of : List ℕ → KeyOctets
key_from_of v = record { width = get_or v 0 0; octets = octets_value v 1 16 }

unfoldable pub params_from_of : List ℕ → Params
params_from_of v =
    record {
      number = record { 0 = get_or v 0 0 };
      life = be32 (part_at 1 4 v);
      tek = key_from_of (part_at 5 17 v);
      vector = key_from_of (part_at 22 17 v);
    }

unfoldable pub descriptor_from_of : List ℕ → Descriptor
descriptor_from_of v = record { said = be16 (part_at 0 2 v); kind = get_or v 2 0; suite = be16 (part_at 3 2 v) }

unfoldable pub descriptors_from_of : List ℕ → List Descriptor
descriptors_from_of v =
    descriptor_from_of (part_at 0 5 v)
    ∷ descriptor_from_of (part_at 5 5 v)
    ∷ descriptor_from_of (part_at 10 5 v)
    ∷ descriptor_from_of (part_at 15 5 v)
    ∷ []

unfoldable pub fields_from_of : List ℕ → Fields
fields_from_of s =
    record {
      code = get_or s 0 0;
      identifier = get_or s 1 0;
      ak = record { 0 = get_or s 2 0 };
      said = be16 (part_at 5 2 s);
      life = be32 (part_at 7 4 s);
      error = get_or s 3 0;
      count = get_or s 4 0;
      descriptors = descriptors_from_of (part_at 11 20 s);
      older = params_from_of (part_at 31 39 s);
      newer = params_from_of (part_at 70 39 s);
    }

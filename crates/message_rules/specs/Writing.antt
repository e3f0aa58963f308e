-- What the writer writes: the needed attributes in the standard order (document 01, "Messages").
use Rattle.std.specs.Prelude.{ℕ, List, [], ◌∷◌, ◌++◌, cond, length, take, replicate, eqb}
use Rattle.message_rules.specs.declared.fields.KeyOctets.{KeyOctets}
use Rattle.message_rules.specs.declared.fields.Params.{Params}
use Rattle.message_rules.specs.declared.fields.Descriptor.{Descriptor}
use Rattle.message_rules.specs.declared.fields.Fields.{Fields}
use Rattle.message_rules.specs.Attributes.{Item, attr, octets, two, four}
use Rattle.message_rules.specs.Ranges.{Required, required_of}

abbrev pub own_octets_of : KeyOctets → List ℕ
own_octets_of k = take k.width k.octets

-- The insides of the compounds
unfoldable pub params_items_of : Params → List Item
params_items_of p =
    attr 8 (own_octets_of p.tek) ∷ attr 9 (four p.life) ∷ attr 10 (p.number.0 ∷ []) ∷ attr 15 (own_octets_of p.vector) ∷ []

unfoldable pub descriptor_items_of : Descriptor → List Item
descriptor_items_of d = attr 12 (two d.said) ∷ attr 24 (d.kind ∷ []) ∷ attr 20 (two d.suite) ∷ []

unfoldable pub descriptors_items : List Descriptor → List Item
descriptors_items [] = []
descriptors_items (d ∷ ds) = attr 23 (octets (descriptor_items_of d)) ∷ descriptors_items ds

-- The attributes of one needed type, with the AUTH-Key's octets and the digest's
unfoldable pub items_of_type : Fields → List ℕ → List ℕ → ℕ → List Item
items_of_type f key digest k =
    cond (eqb k 7) (attr 7 key ∷ [])
    (cond (eqb k 9) (attr 9 (four f.life) ∷ [])
    (cond (eqb k 10) (attr 10 (f.ak.0 ∷ []) ∷ [])
    (cond (eqb k 11) (attr 11 digest ∷ [])
    (cond (eqb k 12) (attr 12 (two f.said) ∷ [])
    (cond (eqb k 13) (attr 13 (octets (params_items_of f.older)) ∷ attr 13 (octets (params_items_of f.newer)) ∷ [])
    (cond (eqb k 16) (attr 16 (f.error ∷ []) ∷ [])
    (cond (eqb k 23) (descriptors_items (take f.count f.descriptors))
    [])))))))

-- All needed ones, in the order in which they are listed
unfoldable pub items_of_types : Fields → List ℕ → List ℕ → List Required → List Item
items_of_types f key digest [] = []
items_of_types f key digest (t ∷ ts) = items_of_type f key digest t.kind ++ items_of_types f key digest ts

unfoldable pub items_of : Fields → List ℕ → List ℕ → List Item
items_of f key digest = items_of_types f key digest (required_of f.code)

-- Code, Identifier, Length, attributes
unfoldable pub message : ℕ → ℕ → List ℕ → List ℕ
message code identifier body = code ∷ identifier ∷ (two (length body) ++ body)

unfoldable pub message_of : Fields → List ℕ → List ℕ → List ℕ
message_of f key digest = message f.code f.identifier (octets (items_of f key digest))

-- The octets that stand in the digest's place until it is worked out
abbrev pub no_digest_of : List ℕ
no_digest_of = replicate 20 0

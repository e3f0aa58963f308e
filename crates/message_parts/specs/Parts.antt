-- The parts of a message that the writer's functions write, and their lengths (document 01, "Messages").
use Rattle.std.specs.Prelude.{ℕ, ◌≤◌, ◌≡◌, true, cond, List, [], ◌∷◌, length, eqb}
use Rattle.key_traffic.specs.declared.numbers.AkNumber.{AkNumber}
use Rattle.message_rules.specs.declared.fields.Params.{Params}
use Rattle.message_rules.specs.declared.fields.Descriptor.{Descriptor}
use Rattle.message_rules.specs.declared.fields.Fields.{Fields}
use Rattle.message_rules.specs.Attributes.{Item, attr, octets, two, four}
use Rattle.message_rules.specs.Ranges.{Required, required_of, is_required_of}
use Rattle.message_rules.specs.Limits.{auth_key_fits_of}
use Rattle.message_rules.specs.Writing.{params_items_of, descriptor_items_of, descriptors_items, items_of, items_of_types}

-- TEK-Parameters
abbrev pub params_item : Params → Item
params_item p = attr 13 (octets (params_items_of p))

-- An SA-Descriptor
abbrev pub descriptor_item : Descriptor → Item
descriptor_item d = attr 23 (octets (descriptor_items_of d))

-- The head of a message, which is put apart from the attributes: Code, Identifier, and Length of two octets, how many octets the attributes have
abbrev pub head_octets_of : ℕ → ℕ → ℕ → List ℕ
head_octets_of code identifier len = code ∷ identifier ∷ two len

-- What Key Request, Key Reply, Key Reject and TEK Invalid begin with
abbrev pub named_items : AkNumber → ℕ → List Item
named_items ak said = attr 10 (ak.0 ∷ []) ∷ attr 12 (two said) ∷ []

-- What follows the AUTH-Key in an Authorization Reply
abbrev pub grant_items : ℕ → AkNumber → List Descriptor → List Item
grant_items life ak ds = attr 9 (four life) ∷ attr 10 (ak.0 ∷ []) ∷ descriptors_items ds

-- The types that a message requires before the digest's, which is the last where there is one
unfoldable pub before_digest_of : List Required → List Required
before_digest_of [] = []
before_digest_of (t ∷ ts) = cond (eqb t.kind 11) [] (t ∷ before_digest_of ts)

-- The attributes of a message before the digest's; where a code carries no digest, all of them
unfoldable pub front_items : Fields → List ℕ → List Item
front_items f key = items_of_types f key [] (before_digest_of (required_of f.code))

-- The digest attribute, which is put apart from the others; nothing where a code carries none
unfoldable pub digest_items : ℕ → List ℕ → List Item
digest_items code digest = cond (is_required_of code 11) (attr 11 digest ∷ []) []

-- A code that is written, with an AUTH-Key of a length that it may have
pub record Writable (f : Fields) (len : ℕ) : Type 0 where
  pub low : 4 ≤ f.code
  pub high : f.code ≤ 12
  pub key : auth_key_fits_of f len ≡ true

-- The octets of the attributes, whatever the digest's 20 are
abbrev pub BodyLength : Fields → List ℕ → ℕ → Type 0
BodyLength f key n = (digest : List ℕ) → length digest ≡ 20 → n ≡ length (octets (items_of f key digest))

-- Octets as attributes, and attributes as octets (document 01, "Messages"). A holder is a message's body or a compound's value.
use Rattle.std.specs.Prelude.{ℕ, zero, suc, ◌+◌, ◌*◌, ◌/◌, ◌%◌, List, [], ◌∷◌, ◌++◌, Bool, true, false, ◌&&◌, length, get_or, take, drop, leb, eqb}

-- An attribute with its type and value, or octets that make no whole attribute
pub data Item : Type 0 where
  attr : ℕ → List ℕ → Item
  cut : Item

-- ---- reading: type (1 octet), length (2, big-endian), value

-- The attribute of type k whose n octets of value begin r, and what follows; or a cut where r is shorter
abbrev pub item : Bool → ℕ → ℕ → List ℕ → List Item → List Item
item true k n r rest = attr k (take n r) ∷ rest
item false k n r rest = cut ∷ []

-- With fuel: each attribute takes at least three octets
unfoldable pub items_with : ℕ → List ℕ → List Item
items_with zero s = []
items_with (suc f) [] = []
items_with (suc f) (k ∷ []) = cut ∷ []
items_with (suc f) (k ∷ a ∷ []) = cut ∷ []
items_with (suc f) (k ∷ a ∷ b ∷ r) = item (leb (a * 256 + b) (length r)) k (a * 256 + b) r (items_with f (drop (a * 256 + b) r))

-- The attributes of a holder
unfoldable pub items : List ℕ → List Item
items s = items_with (length s) s

-- ---- what a list of attributes holds

-- The values of the attributes of a type, in order
abbrev pub keep_value : Bool → List ℕ → List (List ℕ) → List (List ℕ)
keep_value true v vs = v ∷ vs
keep_value false v vs = vs

unfoldable pub values : ℕ → List Item → List (List ℕ)
values k [] = []
values k (attr j v ∷ l) = keep_value (eqb j k) v (values k l)
values k (cut ∷ l) = values k l

unfoldable pub count_of : ℕ → List Item → ℕ
count_of k l = length (values k l)

-- The value that has n others of its type before it, or no octets
unfoldable pub value_at : ℕ → ℕ → List Item → List ℕ
value_at k n l = get_or (values k l) n []

-- The type of the last attribute; 256 where there is none, or a cut
unfoldable pub last_from_of : ℕ → List Item → ℕ
last_from_of d [] = d
last_from_of d (attr k v ∷ l) = last_from_of k l
last_from_of d (cut ∷ l) = 256

abbrev pub last_type : List Item → ℕ
last_type l = last_from_of 256 l

-- Every attribute is whole, and a test holds of each
unfoldable pub all_of : (ℕ → List ℕ → Bool) → List Item → Bool
all_of good [] = true
all_of good (attr k v ∷ l) = good k v && all_of good l
all_of good (cut ∷ l) = false

-- Where the value of the first attribute of a type starts, in a holder that starts at a place; 0 where there is none
abbrev pub here_or : Bool → ℕ → ℕ → ℕ
here_or true here later = here
here_or false here later = later

unfoldable pub start_from : ℕ → ℕ → List Item → ℕ
start_from at k [] = 0
start_from at k (attr j v ∷ l) = here_or (eqb j k) (at + 3) (start_from (at + 3 + length v) k l)
start_from at k (cut ∷ l) = 0

-- ---- numbers, big-endian; past the end of a value the octets are 0
unfoldable pub be16 : List ℕ → ℕ
be16 v = get_or v 0 0 * 256 + get_or v 1 0

unfoldable pub be32 : List ℕ → ℕ
be32 v = get_or v 0 0 * 16777216 + get_or v 1 0 * 65536 + get_or v 2 0 * 256 + get_or v 3 0

-- ---- writing
unfoldable pub two : ℕ → List ℕ
two n = n / 256 % 256 ∷ n % 256 ∷ []

unfoldable pub four : ℕ → List ℕ
four n = n / 16777216 % 256 ∷ n / 65536 % 256 ∷ n / 256 % 256 ∷ n % 256 ∷ []

unfoldable pub attr_octets : ℕ → List ℕ → List ℕ
attr_octets k v = k ∷ (two (length v) ++ v)

-- Attributes one after the other
unfoldable pub octets : List Item → List ℕ
octets [] = []
octets (attr k v ∷ l) = attr_octets k v ++ octets l
octets (cut ∷ l) = octets l

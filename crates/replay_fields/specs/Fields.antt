-- The fields of a line, cut at its commas, and the number that a field says.
use Rattle.std.specs.Prelude.{Bool, true, false, ◌&&◌, List, [], ◌∷◌, ℕ, leb, eqb, length, get_or, is_some, unwrap_or}
use Rattle.text.specs.Decimal.{number_at}

-- An octet before the first field
abbrev pub joined : ℕ → List (List ℕ) → List (List ℕ)
joined b [] = (b ∷ []) ∷ []
joined b (f ∷ fs) = (b ∷ f) ∷ fs

-- A comma starts a field, any other octet belongs to the one that follows it
abbrev pub cut_when : Bool → ℕ → List (List ℕ) → List (List ℕ)
cut_when true b fs = [] ∷ fs
cut_when false b fs = joined b fs

-- The octets between the commas: a line with n commas has n + 1 fields, and an empty line one that is empty
unfoldable pub fields_of : List ℕ → List (List ℕ)
fields_of [] = [] ∷ []
fields_of (b ∷ l) = cut_when (eqb b 44) b (fields_of l)

-- The field at a place, from 0 on; empty where there is none
abbrev pub field : List (List ℕ) → ℕ → List ℕ
field fs i = get_or fs i []

-- A line has at most 16,384 characters
unfoldable pub is_line : List ℕ → Bool
is_line l = leb (length l) 16384

-- A field that is a number in base ten and nothing else: 1 to 20 digits that say less than 2^64
unfoldable pub is_number : List ℕ → Bool
is_number f = is_some (number_at f 0).value && eqb (number_at f 0).next (length f)

-- Which number; 0 where none stands at its front
unfoldable pub number_in : List ℕ → ℕ
number_in f = unwrap_or (number_at f 0).value 0

-- A number that is 0 or 1
unfoldable pub is_flag : List ℕ → Bool
is_flag f = is_number f && leb (number_in f) 1

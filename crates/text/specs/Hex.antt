-- Octets as lower-case hexadecimal digits, two for each octet, the higher first.
use Rattle.std.specs.Prelude.{Bool, cond, ◌&&◌, ◌||◌, List, [], ◌∷◌, ℕ, ◌+◌, ◌*◌, ◌-◌, ◌/◌, ◌%◌, leb, ltb, eqb, length}
use Rattle.std.specs.List.{list_all}

-- "0" to "9"
abbrev pub is_ten : ℕ → Bool
is_ten b = leb 48 b && leb b 57

-- "a" to "f"
abbrev pub is_six : ℕ → Bool
is_six b = leb 97 b && leb b 102

unfoldable pub is_hex_of : ℕ → Bool
is_hex_of b = is_ten b || is_six b

-- The value of a digit, 0 to 15; of any other octet 0
unfoldable pub hex_value_of : ℕ → ℕ
hex_value_of b = cond (is_ten b) (b - 48) (cond (is_six b) (b - 87) 0)

unfoldable pub all_hex_of : List ℕ → Bool
all_hex_of = list_all is_hex_of

-- A field of octets: digits alone, and an even number of them; an empty field is no octets
unfoldable pub is_octets : List ℕ → Bool
is_octets f = eqb (length f % 2) 0 && all_hex_of f

-- The octets that digits say; a last digit without its second says nothing
unfoldable pub octets_value : List ℕ → List ℕ
octets_value [] = []
octets_value (a ∷ []) = []
octets_value (a ∷ b ∷ l) = (hex_value_of a * 16 + hex_value_of b) ∷ octets_value l

-- The digit of a value below 16
unfoldable pub hex_digit_of : ℕ → ℕ
hex_digit_of n = cond (ltb n 10) (48 + n) (87 + n)

-- The digits of octets
unfoldable pub hex_of : List ℕ → List ℕ
hex_of [] = []
hex_of (x ∷ l) = hex_digit_of (x / 16) ∷ hex_digit_of (x % 16) ∷ hex_of l

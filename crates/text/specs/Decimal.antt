-- Decimal numbers as octets: the digits at a place of a list and what they say, and the digits of a number.
use Rattle.std.specs.Prelude.{Option, None, Some, ℕ, zero, suc, ◌+◌, ◌*◌, ◌-◌, ◌/◌, ◌%◌, List, [], ◌∷◌, ◌++◌, Bool, true, false, ◌&&◌, length, drop, leb, ltb}
use Rattle.text.specs.declared.decimal.Number.{Number}

-- "0" to "9"
unfoldable pub is_digit_of : ℕ → Bool
is_digit_of b = leb 48 b && leb b 57

-- an octet before the digits that follow it, if it is one
abbrev pub keep : Bool → ℕ → List ℕ → List ℕ
keep true b l = b ∷ l
keep false b l = []

-- the digits at the front, up to the first octet that is none, or the end
unfoldable pub leading : List ℕ → List ℕ
leading [] = []
leading (b ∷ l) = keep (is_digit_of b) b (leading l)

-- the number that v, with these digits written after it, says in base ten
unfoldable pub value_from : ℕ → List ℕ → ℕ
value_from v [] = v
value_from v (b ∷ l) = value_from (v * 10 + (b - 48)) l

-- the number that digits say, most significant first; 0 of none
unfoldable pub value_of : List ℕ → ℕ
value_of l = value_from 0 l

-- what is answered for a value, by whether it fits
abbrev pub number_when : Bool → ℕ → ℕ → Number
number_when true v next = record { value = Some v; next = next }
number_when false v next = record { value = None; next = next }

-- 2^64
abbrev pub limit : ℕ
limit = 18446744073709551616

-- below the limit, with at least one digit and at most 20
unfoldable pub fitting : List ℕ → Bool
fitting ds = ltb (value_of ds) limit && leb 1 (length ds) && leb (length ds) 20

-- what these digits from a place on say, and the place after them
unfoldable pub number_of : ℕ → List ℕ → Number
number_of at ds = number_when (fitting ds) (value_of ds) (at + length ds)

-- what stands at a place; past the end there are no digits
unfoldable pub number_at : List ℕ → ℕ → Number
number_at s at = number_of at (leading (drop at s))

-- the digits of n, by whether it is below ten, with fuel: each digit but the first takes a division
unfoldable pub decimal_with : ℕ → Bool → ℕ → List ℕ
decimal_with zero t n = []
decimal_with (suc f) true n = (48 + n) ∷ []
decimal_with (suc f) false n = decimal_with f (ltb (n / 10) 10) (n / 10) ++ ((48 + n % 10) ∷ [])

-- the shortest decimal digits of n, most significant first; n divisions are enough for any n
unfoldable pub decimal_of : ℕ → List ℕ
decimal_of n = decimal_with (suc n) (ltb n 10) n

-- ---- one digit at a time, as the code reads

abbrev pub partial_when : Bool → ℕ → Option ℕ
partial_when true v = Some v
partial_when false v = None

-- the digits so far say v, where it is below the limit
abbrev pub partial_of : ℕ → Option ℕ
partial_of v = partial_when (ltb v limit) v

-- the number with one digit more; one that does not fit fits no better with a digit more
abbrev pub append_to : Option ℕ → ℕ → Option ℕ
append_to None b = None
append_to (Some v) b = partial_of (v * 10 + (b - 48))

-- the answer for n digits read, which end at next
abbrev pub number_from_of : Option ℕ → ℕ → ℕ → Number
number_from_of None n next = number_when false 0 next
number_from_of (Some v) n next = number_when (leb 1 n && leb n 20) v next

-- a number and the octet after it
unfoldable pub number_text : ℕ → ℕ → List ℕ
number_text n after = decimal_of n ++ (after ∷ [])

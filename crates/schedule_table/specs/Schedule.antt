-- What the schedule program reads and prints (document 01, "Edges").
use Rattle.std.specs.Prelude.{Option, None, Some, is_some, unwrap_or, Bool, ◌&&◌, ◌||◌, List, [], ◌∷◌, ◌++◌, ℕ, zero, suc, ◌+◌, ◌-◌, ◌/◌, ◌%◌, leb, eqb, length, take, get_or, replicate}
use Rattle.std.specs.Bool.{then_some}
use Rattle.questions.specs.Settings.{life_fits_of}
use Rattle.text.specs.Decimal.{number_at, decimal_of}
use Rattle.text.specs.Same.{same_octets_of}
use Rattle.key_association.specs.Made.{Made, Accepted, listing, clock, keys_made}
use Rattle.schedule_table.specs.declared.input.Asked.{Asked}
use Rattle.schedule_table.specs.declared.input.Field.{Field}

-- ---- what is read

-- "life,from,until" and the end of the line
abbrev pub names : List ℕ
names = 108 ∷ 105 ∷ 102 ∷ 101 ∷ 44 ∷ 102 ∷ 114 ∷ 111 ∷ 109 ∷ 44 ∷ 117 ∷ 110 ∷ 116 ∷ 105 ∷ 108 ∷ 10 ∷ []

-- Nothing follows, or one end of a line and then nothing
unfoldable pub ends_at : List ℕ → ℕ → Bool
ends_at s at = eqb at (length s) || (eqb (at + 1) (length s) && eqb (get_or s at 0) 10)

-- A number stands at a place, and a comma after it
unfoldable pub field_at : List ℕ → ℕ → Bool
field_at s at = is_some (number_at s at).value && eqb (get_or s (number_at s at).next 0) 44

-- Where the three values start
abbrev pub from_place : List ℕ → ℕ
from_place s = (number_at s 16).next + 1

abbrev pub until_place : List ℕ → ℕ
until_place s = (number_at s (from_place s)).next + 1

-- A line of the names and a line of three numbers with commas between; the last line end may be missing
unfoldable pub in_form : List ℕ → Bool
in_form s =
    same_octets_of (take 16 s) names
    && field_at s 16
    && field_at s (from_place s)
    && is_some (number_at s (until_place s)).value
    && ends_at s (number_at s (until_place s)).next

-- The life within its limits, `from` at most `until`, both at most 10^12
unfoldable pub asked_fits_of : Asked → Bool
asked_fits_of a = life_fits_of a.life && leb a.from a.until && leb a.until 1000000000000

abbrev pub values_of : List ℕ → Asked
values_of s =
    record {
      life = unwrap_or (number_at s 16).value 0;
      from = unwrap_or (number_at s (from_place s)).value 0;
      until = unwrap_or (number_at s (until_place s)).value 0;
    }

-- What is asked for, or nothing where the input is refused
unfoldable pub input_of : List ℕ → Option Asked
input_of s = then_some (in_form s && asked_fits_of (values_of s)) (values_of s)

-- As the code reads them: a number before a comma, with the place after the comma, and a number before the end
unfoldable pub field_in : List ℕ → ℕ → Option Field
field_in s at = then_some (field_at s at) (record { value = unwrap_or (number_at s at).value 0; next = (number_at s at).next + 1 })

unfoldable pub last_in : List ℕ → ℕ → Option ℕ
last_in s at =
    then_some (is_some (number_at s at).value && ends_at s (number_at s at).next) (unwrap_or (number_at s at).value 0)

-- ---- what is printed

-- The program lists one SAID at `from` and calls the clock every H through `until`. No row shows the SAID, the suite or a
-- key's octets: 0, 768 and zeros stand for them
abbrev pub zeros : List ℕ
zeros = replicate 64 0

unfoldable pub every_half_of : ℕ → ℕ → ℕ → List Accepted
every_half_of half t zero = []
every_half_of half t (suc n) = clock (t + half) zeros ∷ every_half_of half (t + half) n

abbrev pub half_life : Asked → ℕ
half_life a = a.life / 2

abbrev pub calls_of : Asked → List Accepted
calls_of a =
    listing a.from (record { said = 0; suite = 768 } ∷ []) zeros
    ∷ every_half_of (half_life a) a.from ((a.until - a.from) / half_life a)

-- A row: generation, number, second of minting and deadline, in decimal
unfoldable pub row_octets : ℕ → ℕ → ℕ → ℕ → List ℕ
row_octets generation number minted deadline =
    decimal_of generation
    ++ (44 ∷ decimal_of number)
    ++ (44 ∷ decimal_of minted)
    ++ (44 ∷ decimal_of deadline)
    ++ (10 ∷ [])

abbrev pub row_of : Made → List ℕ
row_of k = row_octets k.generation (k.generation % 16) k.second k.deadline

unfoldable pub rows_of : List Made → List ℕ
rows_of [] = []
rows_of (k ∷ ks) = row_of k ++ rows_of ks

-- "generation,number,minted,deadline" and the end of the line
abbrev pub header : List ℕ
header =
    103 ∷ 101 ∷ 110 ∷ 101 ∷ 114 ∷ 97 ∷ 116 ∷ 105 ∷ 111 ∷ 110 ∷ 44
    ∷ 110 ∷ 117 ∷ 109 ∷ 98 ∷ 101 ∷ 114 ∷ 44
    ∷ 109 ∷ 105 ∷ 110 ∷ 116 ∷ 101 ∷ 100 ∷ 44
    ∷ 100 ∷ 101 ∷ 97 ∷ 100 ∷ 108 ∷ 105 ∷ 110 ∷ 101 ∷ 10 ∷ []

-- The table: the header, and a row for each key made
unfoldable pub table_of : Asked → List ℕ
table_of a = header ++ rows_of (keys_made (half_life a) (calls_of a))

-- All that the program prints: the table, or `1` alone
abbrev pub output_for : Option Asked → List ℕ
output_for (Some a) = table_of a
output_for None = 49 ∷ 10 ∷ []

unfoldable pub output_of : List ℕ → List ℕ
output_of s = output_for (input_of s)

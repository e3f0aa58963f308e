-- Document 01's example of the schedule program, computed from the definitions.
use mathlib.Core.Path.{◌≡◌, refl}
use mathlib.Core.List.{List, [], ◌∷◌, ◌++◌}
use Prim.Native.Nat.{ℕ}
use Rattle.questions.specs.Settings.{life_fits_of}
use Rattle.text.specs.Decimal.{is_digit_of, leading, value_from, value_of, fitting, number_of, number_at, decimal_with, decimal_of}
use Rattle.std.specs.Prelude.{Some}
use Rattle.text.specs.Same.{same_octets_of}
use Rattle.schedule_table.specs.Schedule.{names, ends_at, field_at, in_form, asked_fits_of, input_of, every_half_of, row_octets, rows_of, header, table_of, output_of}

-- "1800,0,1800" with no line end
abbrev values : List ℕ
values = 49 ∷ 56 ∷ 48 ∷ 48 ∷ 44 ∷ 48 ∷ 44 ∷ 49 ∷ 56 ∷ 48 ∷ 48 ∷ []

asked : input_of (names ++ values) ≡ Some (record { life = 1800; from = 0; until = 1800 })
unfolding input_of in_form same_octets_of field_at ends_at asked_fits_of life_fits_of number_at number_of fitting leading is_digit_of value_of value_from
asked = refl

-- the same with a line end, and a row for each generation 0 to 3
printed : output_of (names ++ values ++ (10 ∷ [])) ≡ header
    ++ (48 ∷ 44 ∷ 48 ∷ 44 ∷ 48 ∷ 44 ∷ 57 ∷ 48 ∷ 48 ∷ 10 ∷ [])
    ++ (49 ∷ 44 ∷ 49 ∷ 44 ∷ 48 ∷ 44 ∷ 49 ∷ 56 ∷ 48 ∷ 48 ∷ 10 ∷ [])
    ++ (50 ∷ 44 ∷ 50 ∷ 44 ∷ 57 ∷ 48 ∷ 48 ∷ 44 ∷ 50 ∷ 55 ∷ 48 ∷ 48 ∷ 10 ∷ [])
    ++ (51 ∷ 44 ∷ 51 ∷ 44 ∷ 49 ∷ 56 ∷ 48 ∷ 48 ∷ 44 ∷ 51 ∷ 54 ∷ 48 ∷ 48 ∷ 10 ∷ [])
unfolding output_of input_of in_form same_octets_of field_at ends_at asked_fits_of life_fits_of number_at number_of fitting leading is_digit_of value_of value_from table_of rows_of every_half_of row_octets decimal_of decimal_with
printed = refl

-- a further line end is refused
two_ends : output_of (names ++ values ++ (10 ∷ 10 ∷ [])) ≡ 49 ∷ 10 ∷ []
unfolding output_of input_of in_form same_octets_of field_at ends_at asked_fits_of life_fits_of number_at number_of fitting leading is_digit_of value_of value_from
two_ends = refl

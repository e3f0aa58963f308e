-- Laws of a row's fields: a number and the octet after it.
use mathlib.Core.Path.{◌≡◌}
use mathlib.Core.List.{◌++◌, append_assoc}
use Prim.Native.Nat.{ℕ}
use Rattle.text.specs.Decimal.{number_text}
use Rattle.schedule_table.specs.Schedule.{row_octets}

-- a row is four fields
pub row_fields : (a b c d : ℕ) → number_text a 44 ++ number_text b 44 ++ number_text c 44 ++ number_text d 10 ≡ row_octets a b c d
unfolding number_text row_octets
row_fields a b c d = simp append_assoc

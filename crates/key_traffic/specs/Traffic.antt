-- Traffic keys: in 32 octets (document 01, "Traffic keys at the head-end"), and their limits where an end holds them (question 1).
use Rattle.std.specs.Prelude.{Bool, ◌&&◌, ℕ, ◌+◌, List, ltb, leb, replicate}
use Rattle.key_traffic.specs.declared.traffic.TrafficKey.{TrafficKey}
use Rattle.key_traffic.specs.declared.numbers.TekNumber.{TekNumber}
use Rattle.key_traffic.specs.Numbers.{tek_in_range_of, same_tek_of, after_of}
use Rattle.key_traffic.specs.Octets.{octets_value, zero_past_of}

-- A key that is not there: all zero
abbrev pub no_key_of : TrafficKey
no_key_of = record { number = record { 0 = 0 }; deadline = 0; tek = replicate 16 0; vector = replicate 16 0 }

-- In the 32 octets at a place the TEK starts at 0 and the vector at 16; each is w octets wide, and the rest is dropped
abbrev pub key_from_of : List ℕ → ℕ → ℕ → TekNumber → ℕ → TrafficKey
key_from_of m at w number deadline =
    record { number = number; deadline = deadline; tek = octets_value m at w; vector = octets_value m (at + 16) w }

-- Number 0 to 15; TEK and vector are zero past their width
unfoldable pub key_fits_of : ℕ → TrafficKey → Bool
key_fits_of w k = tek_in_range_of k.number && zero_past_of w k.tek && zero_past_of w k.vector

-- The newer's number is the older's and 1, mod 16
unfoldable pub follows : TrafficKey → TrafficKey → Bool
follows older newer = same_tek_of newer.number (after_of older.number 1)

-- A pair that either end may hold at a clock: no key lives longer than the longest TEK lifetime
unfoldable pub pair_fits_of : ℕ → ℕ → TrafficKey → TrafficKey → Bool
pair_fits_of w clock older newer =
    key_fits_of w older
    && key_fits_of w newer
    && follows older newer
    && ltb older.deadline newer.deadline
    && leb newer.deadline (clock + 604800)

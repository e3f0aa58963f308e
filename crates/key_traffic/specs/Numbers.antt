-- Key numbers (document 01, "What the engine covers" and "Traffic keys at the head-end").
use Rattle.std.specs.Prelude.{Bool, ℕ, ◌+◌, ◌%◌, leb, eqb}
use Rattle.key_traffic.specs.declared.numbers.AkNumber.{AkNumber}
use Rattle.key_traffic.specs.declared.numbers.TekNumber.{TekNumber}

-- An authorization key's number is 0 to 15
abbrev pub ak_in_range_of : AkNumber → Bool
ak_in_range_of n = leb n.0 15

-- A traffic key's number is 0 to 15
abbrev pub tek_in_range_of : TekNumber → Bool
tek_in_range_of n = leb n.0 15

abbrev pub same_tek_of : TekNumber → TekNumber → Bool
same_tek_of a b = eqb a.0 b.0

-- Generation g has the number g mod 16
abbrev pub tek_number_of : ℕ → TekNumber
tek_number_of g = record { 0 = g % 16 }

-- The number of the generation k after the one numbered n
abbrev pub after_of : TekNumber → ℕ → TekNumber
after_of n k = record { 0 = (n.0 + k) % 16 }

abbrev pub same_ak_of : AkNumber → AkNumber → Bool
same_ak_of a b = eqb a.0 b.0

-- The number of the authorization key k after the one numbered n
abbrev pub ak_after_of : AkNumber → ℕ → AkNumber
ak_after_of n k = record { 0 = (n.0 + k) % 16 }

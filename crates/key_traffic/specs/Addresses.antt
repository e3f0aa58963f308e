-- SAIDs and modems' addresses (document 01, "What the engine covers" and "Traffic keys at the head-end").
use Rattle.std.specs.Prelude.{Bool, ℕ, leb, ltb}

-- A SAID has 14 bits
abbrev pub said_fits_of : ℕ → Bool
said_fits_of said = leb said 16383

-- A modem's address has 48 bits
abbrev pub address_fits_of : ℕ → Bool
address_fits_of address = ltb address 281474976710656

-- Minting from lent octets (document 01, "Traffic keys at the head-end").
use Rattle.std.specs.Prelude.{ℕ, List}
use Rattle.key_traffic.specs.declared.numbers.TekNumber.{TekNumber}
use Rattle.key_traffic.specs.declared.traffic.TrafficKey.{TrafficKey}
use Rattle.key_traffic.specs.Traffic.{key_from_of}

-- A generation is minted from the 32 octets of the material at a place, by nothing else
abbrev pub mint_of : List ℕ → ℕ → ℕ → TekNumber → ℕ → TrafficKey
mint_of m at w number deadline = key_from_of m at w number deadline

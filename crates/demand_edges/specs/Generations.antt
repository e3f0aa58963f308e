-- Generations of a SAID that is listed at second 0 with L = 1,800, so H = 900, as the rows on minting name them.
use Rattle.std.specs.Prelude.{List, [], ◌∷◌, ℕ}
use Rattle.key_association.specs.declared.record.Assoc.{Assoc}
use Rattle.key_association.specs.Listing.{fresh_of}
use Rattle.key_association.specs.Made.{Made, SaidSuite, Generations, made_at, listed_generations, generations_to, key_of}

-- The record of a listing at 0, and the keys that it made
abbrev pub listed : SaidSuite → List ℕ → Assoc
listed s k = fresh_of 900 0 k 0 s.said s.suite

abbrev pub line : SaidSuite → List ℕ → Generations
line s k = listed_generations 900 0 k 0 s

-- A generation minted at a second from 32 octets of m at a place
abbrev pub generation : SaidSuite → ℕ → ℕ → ℕ → List ℕ → ℕ → Made
generation s g second deadline m at = made_at s.said s.suite g second deadline m at

-- A record that holds two generations
abbrev pub holding : SaidSuite → Made → Made → Assoc
holding s older newer = record { said = s.said; suite = s.suite; older = key_of older; newer = key_of newer }

-- The line after clock calls at these seconds
abbrev pub clocked : List ℕ → List ℕ → Generations → Generations
clocked m [] l = l
clocked m (t ∷ ts) l = clocked m ts (generations_to 900 t m 0 l)

-- Fifteen clock calls, every H
abbrev pub seconds : List ℕ
seconds =
    900 ∷ 1800 ∷ 2700 ∷ 3600 ∷ 4500 ∷ 5400 ∷ 6300 ∷ 7200 ∷ 8100 ∷ 9000 ∷ 9900 ∷ 10800 ∷ 11700 ∷ 12600 ∷ 13500 ∷ []

-- SAIDs of at most four places, tested pair by pair.
use Rattle.std.specs.Prelude.{ℕ, Bool, ◌&&◌, ◌||◌, not, leb, eqb}

-- Two differ, where the one at place i is among the first n
abbrev pub apart_at : ℕ → ℕ → ℕ → ℕ → Bool
apart_at n i a b = leb n i || not (eqb a b)

-- The first n of four differ
abbrev pub pairs_apart : ℕ → ℕ → ℕ → ℕ → ℕ → Bool
pairs_apart n a b c d =
    apart_at n 1 a b && apart_at n 2 a c && apart_at n 3 a d && apart_at n 2 b c && apart_at n 3 b d && apart_at n 3 c d

-- Octets of keys and vectors, and of lent slices.
use Rattle.std.specs.Prelude.{Bool, true, ◌&&◌, ℕ, List, [], ◌∷◌, ◌++◌, eqb, length, take, drop, replicate}

-- A key or a vector as the 16 octets that hold it: its own, then zeros
unfoldable pub padded : List ℕ → List ℕ
padded octets = take 16 (octets ++ replicate 16 0)

-- w octets of m from a place, padded
unfoldable pub octets_value : List ℕ → ℕ → ℕ → List ℕ
octets_value m at w = padded (take w (drop at m))

unfoldable pub all_zero : List ℕ → Bool
all_zero [] = true
all_zero (x ∷ xs) = eqb x 0 && all_zero xs

-- The octets past a width are zero
unfoldable pub zero_past_of : ℕ → List ℕ → Bool
zero_past_of w octets = all_zero (drop w octets)

-- What a lent slice holds when octets that fit were written at its front: the rest is as before
abbrev pub overlay : List ℕ → List ℕ → List ℕ
overlay lent written = written ++ drop (length written) lent

-- Whether two texts are the same octet for octet.
use Rattle.std.specs.Prelude.{ℕ, Bool, List, eqb}
use Rattle.std.specs.Cmp.Lexicographic.{pointwise}

unfoldable pub same_octets_of : List ℕ → List ℕ → Bool
same_octets_of = pointwise eqb

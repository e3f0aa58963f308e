-- The suites (document 01, "Settings"): 256 has TEK and vector of 8 octets each, 768 of 16 each.
use Rattle.std.specs.Prelude.{Bool, cond, ◌||◌, ℕ, eqb}

-- A suite that is not known has no width
unfoldable pub width_of : ℕ → ℕ
width_of suite = cond (eqb suite 256) 8 (cond (eqb suite 768) 16 0)

abbrev pub suite_known_of : ℕ → Bool
suite_known_of suite = eqb suite 256 || eqb suite 768

abbrev pub width_known_of : ℕ → Bool
width_known_of w = eqb w 8 || eqb w 16

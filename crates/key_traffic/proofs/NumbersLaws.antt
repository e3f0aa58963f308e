-- The sum of a key number and a count of generations.
use mathlib.Core.Path.{◌≡◌}
use Prim.Native.Nat.{ℕ, ◌+◌, ◌%◌}
use native.Mathlib.Omega.{arith}

-- A sum mod 16 of parts mod 16, in whatever order they are added
pub mod_once : (sum n k : ℕ) → sum ≡ n % 16 + k % 16 → sum % 16 ≡ (n + k) % 16
mod_once sum n k same = omega arith

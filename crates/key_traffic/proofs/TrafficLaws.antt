-- Laws of keys in octets and of the limits of held keys (`specs/Traffic.antt`).
use mathlib.Core.Path.{◌≡◌, ◌∙◌, ap}
use mathlib.Core.Bool.{true}
use mathlib.Core.List.{List}
use Prim.Native.Nat.{ℕ, ◌+◌, ◌%◌, ◌≤◌}
use native.Mathlib.Omega.{arith}
use borrow.Author.Tests.{le-leb, eq-eqb}
use Rattle.key_traffic.specs.declared.numbers.TekNumber.{TekNumber}
use Rattle.key_traffic.specs.Numbers.{after_of, tek_in_range_of, same_tek_of}
use Rattle.key_traffic.specs.declared.traffic.TrafficKey.{TrafficKey}
use Rattle.key_traffic.specs.Octets.{octets_value}
use Rattle.key_traffic.specs.Traffic.{key_from_of}

-- a key by its TEK and its vector as the code has them
module _ (m : List ℕ) (at w : ℕ) (number : TekNumber) (deadline : ℕ) where
  abbrev key_with : List ℕ → List ℕ → TrafficKey
  key_with tek vector = record { number = number; deadline = deadline; tek = tek; vector = vector }

  pub key_by : (tek vector : List ℕ) → tek ≡ octets_value m at w → vector ≡ octets_value m (at + 16) w → key_with tek vector ≡ key_from_of m at w number deadline
  key_by tek vector e q = ap (λ (x : List ℕ). key_with x vector) e ∙ ap (key_with (octets_value m at w)) q

pub after_in_range : (n : TekNumber) (k : ℕ) → tek_in_range_of (after_of n k) ≡ true
after_in_range n k =
    let small : (n.0 + k) % 16 ≤ 15 = omega arith in
    le-leb ((n.0 + k) % 16) 15 small

pub next_follows : (n : TekNumber) (k : ℕ) → same_tek_of (after_of n (k + 1)) (after_of (after_of n k) 1) ≡ true
next_follows n k =
    let same : (n.0 + (k + 1)) % 16 ≡ ((n.0 + k) % 16 + 1) % 16 = omega arith in
    eq-eqb ((n.0 + (k + 1)) % 16) (((n.0 + k) % 16 + 1) % 16) same

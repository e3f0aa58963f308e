-- The 16 octets that hold a key, each by its place, for a key of any width.
use Prim.Native.Nat.{ℕ, zero, suc, ◌+◌, ◌-◌, ◌≤◌}
use mathlib.Core.Path.{◌≡◌, refl, sym, ◌∙◌, ap}
use mathlib.Core.List.{List, [], ◌∷◌, ◌++◌}
use lib.ListN.{length, get_or, take, drop, replicate}
use Rattle.std.proofs.Math.Seq.{take-append-add}
use Rattle.std.proofs.lemmas.List.{take-replicate, drop-replicate}
use native.Mathlib.Omega.{arith}
use Rattle.key_traffic.specs.Octets.{padded}

-- n octets from a place on, 0 past the end
abbrev pub places : ℕ → ℕ → List ℕ → List ℕ
places zero k v = []
places (suc n) k v = get_or v k 0 ∷ places n (suc k) v

places_behind : (n k x : ℕ) (v : List ℕ) → places n (suc k) (x ∷ v) ≡ places n k v
places_behind zero k x v = refl
places_behind (suc n) k x v = ap (λ (l : List ℕ). get_or v k 0 ∷ l) (places_behind n (suc k) x v)

-- Past the end there are zeros
pub places_past : (n k : ℕ) (v : List ℕ) → length v ≤ k → places n k v ≡ replicate n 0
places_past zero k v h = refl
places_past (suc n) k [] h = ap (λ (l : List ℕ). 0 ∷ l) (places_past n (suc k) [] (omega arith))
places_past (suc n) zero (x ∷ v) h = absurd (omega arith)
places_past (suc n) (suc k) (x ∷ v) h = places_behind (suc n) k x v ∙ places_past (suc n) k v (omega arith)

take_places : (n m : ℕ) (v : List ℕ) → n ≤ m → take n (v ++ replicate m 0) ≡ places n 0 v
take_places zero m v h = refl
take_places (suc n) zero v h = absurd (omega arith)
take_places (suc n) (suc m) [] h = ap (λ (l : List ℕ). 0 ∷ l) (take_places n m [] (omega arith) ∙ zeros n 0)
  where
    zeros : (n k : ℕ) → places n k [] ≡ places n (suc k) []
    zeros zero k = refl
    zeros (suc n) k = ap (λ (l : List ℕ). 0 ∷ l) (zeros n (suc k))
take_places (suc n) (suc m) (x ∷ v) h = ap (λ (l : List ℕ). x ∷ l) (take_places n (suc m) v (omega arith) ∙ sym (places_behind n 0 x v))

-- A key of any width as the 16 octets that hold it
pub padded_places : (v : List ℕ) → padded v ≡ places 16 0 v
unfolding padded
padded_places v = take_places 16 16 v (omega arith)

-- ---- the octets of a key that the 16 hold, and the zeros after them
zeros_after : (v : List ℕ) (n m : ℕ) → length v ≡ n → n ≤ m → v ++ drop n (replicate m 0) ≡ take m (v ++ replicate m 0)
zeros_after v n m e h =
    let whole : m ≡ length v + (m - n) = omega arith in
    ap (λ (l : List ℕ). v ++ l) (drop-replicate n m 0 ∙ sym (take-replicate (m - n) m 0 (omega arith)))
    ∙ sym (take-append-add v (replicate m 0) (m - n))
    ∙ ap (λ (k : ℕ). take k (v ++ replicate m 0)) (sym whole)

pub padded_own : (v : List ℕ) (n : ℕ) → length v ≡ n → n ≤ 16 → v ++ drop n (replicate 16 0) ≡ padded v
unfolding padded
padded_own v n e h = zeros_after v n 16 e h

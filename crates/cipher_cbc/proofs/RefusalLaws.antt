-- What the number 0 tells of the lengths.
use mathlib.Core.Path.{◌≡◌, refl}
use mathlib.Core.List.{List}
use mathlib.Core.Bool.{Bool, true, false, not}
use Prim.Native.Nat.{ℕ, zero, suc, ◌≤◌}
use native.Mathlib.Omega.{arith}
use lib.Dec.{T, eqb, ltb, eqb→eq, nltb→le}
use Rattle.cipher_cbc.specs.Calls.{pick, refusal_of, written}

pub fits : (k v s o : ℕ) → refusal_of k v s o ≡ 0 → (k ≡ 16) × ((v ≡ 16) × ((12 ≤ s) × (s ≤ o)))
unfolding refusal_of
fits k v s o = go (eqb k 16) (eqb v 16) (ltb o s) (ltb s 12) (eqb→eq k 16) (eqb→eq v 16) (nltb→le o s) (nltb→le s 12)
  where
    go : (a b c d : Bool) → (T a → k ≡ 16) → (T b → v ≡ 16) → (T (not c) → s ≤ o) → (T (not d) → 12 ≤ s)
        → pick a (pick b (pick c 2 (pick d 15 0)) 1) 1 ≡ 0 → (k ≡ 16) × ((v ≡ 16) × ((12 ≤ s) × (s ≤ o)))
    go true true false false p q r t e = (p tt, (q tt, (t tt, r tt)))
    go true true false true p q r t e = absurd (omega arith)
    go true true true d p q r t e = absurd (omega arith)
    go true false c d p q r t e = absurd (omega arith)
    go false b c d p q r t e = absurd (omega arith)

pub kept : (n : ℕ) (f : List ℕ → List ℕ → List ℕ → List ℕ) (k v s o : List ℕ) → (n ≡ 0 → ⊥) → o ≡ written n f k v s o
unfolding written
kept zero f k v s o h = absurd (h refl)
kept (suc n) f k v s o h = refl

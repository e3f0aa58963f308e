-- The first of four SAIDs are different where they are so pair by pair.
use Prim.Native.Nat.{ℕ, zero, suc}
use mathlib.Core.Path.{◌≡◌, refl}
use mathlib.Core.List.{[], ◌∷◌}
use mathlib.Core.Bool.{and-true, and_assoc}
use native.Mathlib.Omega.{arith}
use lib.ListN.{take}
use lib.Seq.{take-nil}
use borrow.Author.Tests.{lt-leb}
use Rattle.questions.specs.Apart.{pairs_apart}
use Rattle.message_rules.specs.Messages.{is_none, different}

pub pairs_different : (n a b c d : ℕ) → pairs_apart n a b c d ≡ different (take n (a ∷ b ∷ c ∷ d ∷ []))
unfolding different is_none
pairs_different zero a b c d = refl
pairs_different (suc zero) a b c d = refl
pairs_different (suc (suc zero)) a b c d = simp (and-true)
pairs_different (suc (suc (suc zero))) a b c d = simp (and-true, and_assoc)
pairs_different (suc (suc (suc (suc n)))) a b c d =
    let m = suc (suc (suc (suc n))) in
    simp (lt-leb m 1 (omega arith), lt-leb m 2 (omega arith), lt-leb m 3 (omega arith), take-nil {A = ℕ} n, and-true, and_assoc)

-- `chaining::open_with` meets its contract: before each block `Left`, with what was written and what is left.
use Rattle.cipher_cbc.specs.Cbc.{frame}
use Rattle.cipher_aes.specs.Words.{state, key_at}
use Rattle.cipher_aes.specs.declared.words.State.{State}
use Rattle.cipher_aes.specs.Cipher.{cipher}
use Rattle.cipher_cbc.proofs.BlockLaws.{opened_block, Left}
use lib.ListN.{length}
use mathlib.Core.List.{List}
use Prim.Native.Nat.{ℕ, ◌-◌}
use Rattle.cipher_cbc.proofs.chaining.open_with.Given as goal

abbrev Opening : List State → List State → List ℕ → List ℕ → List ℕ → List ℕ → ℕ → List ℕ → Type 0
Opening w x v₀ s o₀ =
    Left (opened_block w x) (λ u b. b) (cipher (key_at w)) s o₀ (frame (opened_block w x) (λ u b. b) (cipher (key_at w)) v₀ s)

abbrev pub invariant-loop-at : goal.invariant-loop-at
invariant-loop-at l = Opening l.keys l.mixed (state l.initial.v) l.frame l.initial.out (state l.v) l.at l.out

abbrev pub decreases-loop-at : goal.decreases-loop-at
decreases-loop-at l = length l.frame - l.at

-- `chaining::seal_blocks` meets its contract: before each block `Left`, with what was written and what is left.
use Rattle.cipher_aes.specs.Words.{state, key_at}
use Rattle.cipher_aes.specs.declared.words.State.{State}
use Rattle.cipher_aes.specs.Cipher.{cipher}
use Rattle.cipher_cbc.specs.Blocks.{seal_blocks_of}
use Rattle.cipher_cbc.proofs.BlockLaws.{sealed_block, Left}
use lib.ListN.{length, take, drop}
use mathlib.Core.List.{List, ◌++◌}
use Prim.Native.Nat.{ℕ, ◌-◌, ◌%◌}
use mathlib.Core.Path.{◌≡◌}
use Rattle.cipher_cbc.proofs.chaining.seal_blocks.Given as goal

abbrev Sealing : List State → List ℕ → List ℕ → ℕ → List ℕ → List ℕ → ℕ → List ℕ → Type 0
Sealing w v₀ s i₀ o₀ =
    Left (sealed_block w) (sealed_block w) (cipher (key_at w)) s o₀ (take i₀ o₀ ++ seal_blocks_of (cipher (key_at w)) v₀ (drop i₀ s))

abbrev pub invariant-loop-at : goal.invariant-loop-at
invariant-loop-at l = Sealing l.keys (state l.initial.v) l.frame l.from l.initial.out (state l.v) l.at l.out × ((length l.frame - l.at) % 16 ≡ (length l.frame - l.from) % 16)

abbrev pub decreases-loop-at : goal.decreases-loop-at
decreases-loop-at l = length l.frame - l.at

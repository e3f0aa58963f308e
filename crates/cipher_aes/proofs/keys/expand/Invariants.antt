-- `keys::expand` meets its contract: the round keys up to i are stored.
use Rattle.std.proofs.Common.{◌≡◌, ◌+◌, ◌<◌, ℕ, length}
use Rattle.cipher_aes.specs.Keys.{round_key}
use Rattle.cipher_aes.specs.Words.{state, key_at}
use Rattle.cipher_aes.proofs.keys.expand.Given as goal

abbrev pub invariant-loop-i : goal.invariant-loop-i
invariant-loop-i l = (length l.keys ≡ 11) × ((j : ℕ) → j < l.i + 1 → key_at l.keys j ≡ round_key (state l.fn.key) j)

-- `decryption::inverse_schedule` meets its contract: the first round keys are through InvMixColumns, the others are as they were.
use Rattle.std.proofs.Common.{◌≡◌, ◌<◌, ◌≤◌, ℕ, length}
use Rattle.cipher_aes.specs.Cipher.{inv_mix_columns}
use Rattle.cipher_aes.specs.Words.{key_at}
use Rattle.cipher_aes.proofs.decryption.inverse_schedule.Given as goal

abbrev pub invariant-loop-key : goal.invariant-loop-key
invariant-loop-key l =
    (length l.key-items ≡ 11)
    × ((j : ℕ) → j < l.key-index → key_at l.key-items j ≡ inv_mix_columns (key_at l.keys j))
    × ((j : ℕ) → l.key-index ≤ j → key_at l.key-items j ≡ key_at l.keys j)

-- `encryption::encrypt` meets its contract: x is the State after so many rounds.
use Rattle.std.proofs.Common.{◌≡◌}
use Rattle.cipher_aes.specs.Cipher.{rounds}
use Rattle.cipher_aes.specs.Words.{state, key_at}
use Rattle.cipher_aes.proofs.encryption.encrypt.Given as goal

abbrev pub invariant-loop-key : goal.invariant-loop-key
invariant-loop-key l = state l.x ≡ rounds (key_at l.keys) l.key-index (state l.initial.x)

-- `encryption::sub_of` meets its contract: the entry's second octet.
use Rattle.std.proofs.Common.{ℕ, List, get_or, ap}
use Rattle.cipher_aes.specs.Words.{word}
use Rattle.cipher_aes.proofs.encryption.sub_of.Goals as goal

pub returns : goal.returns
unfolding word
returns c = rw c.to_be_bytes.ensures (ap (λ (s : List ℕ). get_or s 1 0) c.entry.ensures)

-- `encryption::add_round_key` meets its contract: word by word.
use Rattle.cipher_aes.proofs.WordLaws.{added, word_xor}
use Rattle.cipher_aes.proofs.encryption.add_round_key.Goals as goal

pub returns : goal.returns
returns c = let start = c in
    added start.args.k start.args.s _ (word_xor _ _) (word_xor _ _) (word_xor _ _) (word_xor _ _)

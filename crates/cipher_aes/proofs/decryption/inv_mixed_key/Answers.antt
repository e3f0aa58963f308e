-- `decryption::inv_mixed_key` meets its contract: a State from its four words.
use Rattle.cipher_aes.proofs.EquivalentLaws.{unmixed_state}
use Rattle.cipher_aes.proofs.decryption.inv_mixed_key.Goals as goal

pub returns : goal.returns
returns c = unmixed_state c.args.k _ c.inv_mixed_word.ensures
    c.inv_mixed_word-2.ensures c.inv_mixed_word-3.ensures c.inv_mixed_word-4.ensures

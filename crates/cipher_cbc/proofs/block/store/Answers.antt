-- `block::store` meets its contract: four words, one after the other.
use Rattle.cipher_cbc.proofs.SliceLaws.{stored}
use Rattle.cipher_cbc.proofs.block.store.Goals as goal

pub returns : goal.returns
returns c = stored _ _ _ _ _ _ _
    c.store_word.ensures
    c.store_word-2.ensures
    c.store_word-3.ensures c.store_word-4.ensures

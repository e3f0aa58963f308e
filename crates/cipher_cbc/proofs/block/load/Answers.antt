-- `block::load` meets its contract: four words, one after the other.
use Rattle.cipher_cbc.proofs.SliceLaws.{loaded}
use Rattle.cipher_cbc.proofs.block.load.Goals as goal

pub returns : goal.returns
returns c = loaded _ c.args.s.now c.args.at c.load_word.ensures c.load_word-2.ensures
    c.load_word-3.ensures c.load_word-4.ensures

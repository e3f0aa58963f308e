-- `frame::seal_frame` meets its contract: the schedule is that of the key.
use Rattle.cipher_cbc.proofs.KeyLaws.{seal_loaded}
use lib.ListN.{length, drop}
use Rattle.cipher_cbc.proofs.frame.seal_frame.Goals as goal

pub returns : goal.returns
returns c = seal_loaded c.args.key.now c.args.vector.now c.expand-keys.result c.load.result c.load-2.result
    c.requires.key_len c.requires.vector_len
    c.load.ensures c.load-2.ensures c.expand-keys.ensures c.args.frame.now _ (drop (length c.args.frame.now) c.args.out.now)
    c.seal_with.ensures

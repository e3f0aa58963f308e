-- `frame::open_frame` meets its contract: the schedules are those of the key.
use Rattle.cipher_cbc.proofs.KeyLaws.{open_loaded}
use lib.ListN.{length, drop}
use Rattle.cipher_cbc.proofs.frame.open_frame.Goals as goal

pub returns : goal.returns
returns c = open_loaded c.args.key.now c.args.vector.now c.expand-keys.result c.load.result c.load-2.result
    c.requires.key_len c.requires.vector_len
    c.load.ensures c.load-2.ensures c.expand-keys.ensures c.inverse_schedule-mixed.result
    c.args.frame.now _ (drop (length c.args.frame.now) c.args.out.now) c.inverse_schedule-mixed.ensures c.open_with.ensures

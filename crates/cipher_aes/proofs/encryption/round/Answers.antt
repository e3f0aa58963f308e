-- `encryption::round` meets its contract: a State from its four columns.
use Rattle.cipher_aes.proofs.WordLaws.{rounded}
use Rattle.cipher_aes.proofs.encryption.round.Goals as goal

pub returns : goal.returns
returns c = let start = c in
    rounded start.args.k start.args.s _ c.mixed.ensures c.mixed-2.ensures
    c.mixed-3.ensures c.mixed-4.ensures

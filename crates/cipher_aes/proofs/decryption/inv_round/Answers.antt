-- `decryption::inv_round` meets its contract: a State from its four columns.
use Rattle.cipher_aes.proofs.EquivalentLaws.{inv_rounded}
use Rattle.cipher_aes.proofs.decryption.inv_round.Goals as goal

pub returns : goal.returns
returns c = let start = c in
    inv_rounded start.args.k start.args.s _ c.inv_mixed.ensures c.inv_mixed-2.ensures
    c.inv_mixed-3.ensures c.inv_mixed-4.ensures

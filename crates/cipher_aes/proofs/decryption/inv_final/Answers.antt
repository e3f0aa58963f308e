-- `decryption::inv_final` meets its contract: a State from its four columns.
use Rattle.cipher_aes.proofs.EquivalentLaws.{inv_finished}
use Rattle.cipher_aes.proofs.decryption.inv_final.Goals as goal

pub returns : goal.returns
returns c = let start = c in
    inv_finished start.args.k start.args.s _ c.inv_shifted.ensures c.inv_shifted-2.ensures
    c.inv_shifted-3.ensures c.inv_shifted-4.ensures

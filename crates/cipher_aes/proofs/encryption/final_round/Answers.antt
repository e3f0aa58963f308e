-- `encryption::final_round` meets its contract: a State from its four columns.
use Rattle.cipher_aes.proofs.WordLaws.{finished}
use Rattle.cipher_aes.proofs.encryption.final_round.Goals as goal

pub returns : goal.returns
returns c = let start = c in
    finished start.args.k start.args.s _ c.shifted.ensures c.shifted-2.ensures
    c.shifted-3.ensures c.shifted-4.ensures

-- `decryption::inv_sub_of` meets its contract: by what the table has.
use Rattle.cipher_aes.proofs.TableLaws.{inv_at}
use Rattle.cipher_aes.proofs.decryption.inv_sub_of.Goals as goal

pub returns : goal.returns
returns c = rw c.from.ensures (inv_at c.inverse_sbox.result.now c.args.x c.inverse_sbox.ensures)

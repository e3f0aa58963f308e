-- `decryption::inv_entry` meets its contract: by what the table has.
use Rattle.cipher_aes.proofs.TableLaws.{dec_at}
use Rattle.cipher_aes.proofs.decryption.inv_entry.Goals as goal

pub returns : goal.returns
returns c = rw c.from.ensures (dec_at c.decryption_table.result.now c.args.x c.decryption_table.ensures c.ranges.x.fits)

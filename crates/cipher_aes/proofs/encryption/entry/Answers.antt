-- `encryption::entry` meets its contract: by what the table has.
use Rattle.cipher_aes.proofs.TableLaws.{enc_at}
use Rattle.cipher_aes.proofs.encryption.entry.Goals as goal

pub returns : goal.returns
returns c = rw c.from.ensures (enc_at c.encryption_table.result.now c.args.x c.encryption_table.ensures c.ranges.x.fits)

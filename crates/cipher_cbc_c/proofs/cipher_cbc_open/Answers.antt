-- `cipher_cbc_open` meets its contract: the call of the library has the same one.
use Rattle.cipher_cbc_c.proofs.cipher_cbc_open.Goals as goal

pub returns : goal.returns
returns c = record { value = c.cipher_cbc_open.ensures.value; out_after = c.cipher_cbc_open.ensures.out_after }

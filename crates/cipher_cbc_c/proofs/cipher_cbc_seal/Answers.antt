-- `cipher_cbc_seal` meets its contract: the call of the library has the same one.
use Rattle.cipher_cbc_c.proofs.cipher_cbc_seal.Goals as goal

pub returns : goal.returns
returns c = record { value = c.cipher_cbc_seal.ensures.value; out_after = c.cipher_cbc_seal.ensures.out_after }

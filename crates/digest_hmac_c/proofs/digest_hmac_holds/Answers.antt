-- `digest_hmac_holds` meets its contract: the call of the library has the same one.
use Rattle.digest_hmac_c.proofs.digest_hmac_holds.Goals as goal

pub returns : goal.returns
returns c = c.digest_hmac_holds.ensures

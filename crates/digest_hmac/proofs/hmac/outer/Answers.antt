-- `hmac::outer` meets its contract: by the law `keyed_is`, as the inner hash.
use native.Mathlib.Omega.{arith}
use Rattle.digest_hmac.specs.Hmac.{outer, opad}
use Rattle.digest_hmac.proofs.KeyLaws.{keyed_is}
use Rattle.digest_hmac.proofs.hmac.outer.Goals as goal

pub returns : goal.returns
unfolding outer
returns c = keyed_is c.args.key.now
    c.args.d _ opad _ _ _ c.requires
    (omega arith) c.keyed_value.ensures c.finish.ensures c.octets.ensures

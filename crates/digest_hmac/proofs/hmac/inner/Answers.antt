-- `hmac::inner` meets its contract: by the law `keyed_is`, which takes what the calls ensure.
use mathlib.Core.Path.{refl}
use Rattle.digest_hmac.specs.Hmac.{inner, ipad}
use Rattle.digest_hmac.proofs.KeyLaws.{keyed_is}
use Rattle.digest_hmac.proofs.hmac.inner.Goals as goal

pub returns : goal.returns
unfolding inner
returns c = keyed_is c.args.key.now c.args.m.now _ ipad _ _ _ c.requires refl
    c.keyed_value.ensures c.finish.ensures c.octets.ensures

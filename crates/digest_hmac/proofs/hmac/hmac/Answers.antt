-- `hmac::hmac` meets its contract: by the test of the key's length.
use native.Mathlib.Omega.{arith}
use borrow.Author.Tests.{le-leb, lt-leb}
use lib.ListN.{length}
use Rattle.digest_hmac.specs.Hmac.{hmac, used_key}
use Rattle.digest_hmac.proofs.hmac.hmac.Goals as goal

pub returns-then-key-le-BLOCK_OCTETS : goal.returns-then-key-le-BLOCK_OCTETS
unfolding hmac used_key
returns-then-key-le-BLOCK_OCTETS c = rw (le-leb (length c.args.key.now) 64 (omega arith)) c.block_hmac.ensures

pub returns-else-key-le-BLOCK_OCTETS : goal.returns-else-key-le-BLOCK_OCTETS
unfolding hmac used_key
returns-else-key-le-BLOCK_OCTETS c = rw (lt-leb (length c.args.key.now) 64 (omega arith))
    (simp (c.octets.ensures, c.sha1.ensures) at c.block_hmac-else-key-le-BLOCK_OCTETS.ensures)

-- `compress::round` meets its contract: rewriting with what each rotation says.
use mathlib.Core.Path.{refl}
use Rattle.digest_sha1.proofs.compress.round.Goals as goal

pub returns : goal.returns
returns c = rw (c.rotate_left.ensures, c.rotate_left-2.ensures) refl

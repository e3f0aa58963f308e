-- `compress::compress` meets its contract: s is the definition's after the first rounds.
use Rattle.std.proofs.Common.{◌≡◌}
use Rattle.digest_sha1.specs.Sha1.{schedule, rounds}
use Rattle.digest_sha1.proofs.compress.compress.Given as goal

abbrev pub invariant-loop-x : goal.invariant-loop-x
invariant-loop-x l = l.s ≡ rounds (schedule l.b 80) l.h l.x-index

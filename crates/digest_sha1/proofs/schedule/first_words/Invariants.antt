-- `schedule::first_words` meets its contract: the first t words of w are those of the definition.
use Rattle.std.proofs.Common.{◌≡◌, length, take}
use Rattle.digest_sha1.specs.Sha1.{schedule}
use Rattle.digest_sha1.proofs.schedule.first_words.Given as goal

abbrev pub invariant-loop-t : goal.invariant-loop-t
invariant-loop-t l = (length l.w ≡ 80) × (take l.t l.w ≡ schedule l.b l.t)

abbrev pub invariant-loop-t-2 : goal.invariant-loop-t-2
invariant-loop-t-2 l = (length l.w ≡ 80) × (take l.t l.w ≡ schedule l.b l.t)

-- `keys::key_block` meets its contract: the first octets of the block have the pad, the others are as they were.
use Rattle.std.proofs.Common.{◌≡◌, ◌-◌, ◌++◌, length, map, take, drop, replicate}
use Rattle.digest_sha1.specs.Words.{◌⊕◌}
use Rattle.digest_hmac.proofs.keys.key_block.Given as goal

abbrev pub invariant-loop-x : goal.invariant-loop-x
invariant-loop-x l =
    l.x-items ≡ map (λ x. x ⊕ l.pad) (take l.x-index (l.key ++ replicate (64 - length l.key) 0))
    ++ drop l.x-index (l.key ++ replicate (64 - length l.key) 0)

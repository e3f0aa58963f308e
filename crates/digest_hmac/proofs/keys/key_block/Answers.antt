-- `keys::key_block` meets its contract: the key before zeros, and then each octet with the pad.
use Rattle.std.proofs.Common.{◌≡◌, ◌≤◌, ◌<◌, refl, arith, ◌-◌, ◌++◌, length, replicate, take, drop, add-one, [], append-nil, take_all, drop_of_length-le}
use Rattle.digest_hmac.specs.Hmac.{key_block_of}
use Rattle.digest_sha1.specs.Words.{◌⊕◌}
use Rattle.digest_hmac.proofs.KeyLaws.{mapped_more, key_before_zeros, length_key}
use Rattle.digest_hmac.proofs.keys.key_block.Goals as goal

pub loop-x-init : goal.loop-x-init
loop-x-init c = rw (c.copy_from_slice.ensures.after) (key_before_zeros c.args.key.now _ refl)

pub loop-x-preserved : goal.loop-x-preserved
loop-x-preserved c =
    let b = c.args.key.now ++ replicate (64 - length c.args.key.now) 0 in
    let i : c.loop-x.x-index < length b = omega (arith, length_key c.args.key.now c.requires) in
    rw (add-one, c.loop-x.invariant) (mapped_more (λ x. x ⊕ c.args.pad) c.loop-x.x-index b i)

pub returns : goal.returns
unfolding key_block_of
returns c =
    let b = c.args.key.now ++ replicate (64 - length c.args.key.now) 0 in
    let long : length b ≡ 64 = length_key c.args.key.now c.requires in
    let i : c.loop-x.x-index ≡ 64 = omega arith in
    let fits : length b ≤ 64 = omega arith in
    let all : take 64 b ≡ b = take_all 64 b fits in
    let none : drop 64 b ≡ [] = drop_of_length-le b fits in
    rw (c.loop-x.invariant, i, all, none, append-nil)

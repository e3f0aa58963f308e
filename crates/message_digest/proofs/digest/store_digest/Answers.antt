-- `message_digest::digest::store_digest` meets its contract.
use mathlib.Core.Path.{sym, ◌∙◌}
use native.Mathlib.Omega.{arith}
use Rattle.message_digest.specs.Digest.{digest_filled}
use Rattle.message_digest.proofs.digest.store_digest.Goals as goal

pub overflow_sub-n : goal.overflow_sub-n
overflow_sub-n c = let room = c.requires.0 (sym c.is_required.ensures ∙ c.if-is_required.true) in
    omega (arith, room)

pub overflow_sub-n-then-is_required : goal.overflow_sub-n-then-is_required
overflow_sub-n-then-is_required c = let room = c.requires.0 (sym c.is_required.ensures ∙ c.if-is_required.true) in
    omega (arith, room)

pub fill_digest-requires : goal.fill_digest-requires
fill_digest-requires c = let room = c.requires.0 (sym c.is_required.ensures ∙ c.if-is_required.true) in
    let inside = c.requires.1 in
    (omega (arith, room, inside), omega (arith, room, inside))

pub returns-then-is_required : goal.returns-then-is_required
unfolding digest_filled
returns-then-is_required c = rw (sym c.is_required.ensures ∙ c.if-is_required.true) c.fill_digest.ensures

pub returns-else-is_required : goal.returns-else-is_required
unfolding digest_filled
returns-else-is_required c = rw (sym c.is_required.ensures ∙ c.if-is_required.false)

-- `chaining::open_with` meets its contract: before each block `Left`, with what was written and what is left.
use Rattle.cipher_cbc.proofs.BlockLaws.{begins, next_block, ended, stopped, decrypted}
use Rattle.cipher_cbc.proofs.SliceLaws.{state_length}
use Rattle.cipher_cbc.specs.Cbc.{open_frame_of}
use Rattle.cipher_aes.specs.Words.{state, key_at}
use Rattle.cipher_aes.specs.Cipher.{cipher, eq_inv_cipher}
use lib.ListN.{length}
use native.Mathlib.Omega.{arith}
use Prim.Native.Nat.{◌-◌, ◌≤◌, ◌<◌}
use mathlib.Core.Path.{◌≡◌}
use borrow.Author.Rules.{rules}
use Rattle.cipher_cbc.proofs.BlockLaws.{opened_block}
use Rattle.cipher_cbc.proofs.chaining.open_with.Goals as goal

pub loop-at-init : goal.loop-at-init
loop-at-init c = let s = c.args.frame.now in
    let o = c.copy_clear.new.out in
    begins (opened_block c.args.keys.now c.args.mixed.now) (λ u b. b) (cipher (key_at c.args.keys.now)) (state c.args.vector)
    s c.args.out.now o (search rules) c.copy_clear.ensures

pub store-requires : goal.store-requires
store-requires c = omega (arith, c.loop-at.invariant.long, c.loop-at-test.true, c.loop-at.invariant.within)

pub overflow_add-at : goal.overflow_add-at
overflow_add-at c = omega (arith, c.loop-at-test.true, c.loop-at.invariant.within)

pub loop-at-preserved : goal.loop-at-preserved
loop-at-preserved c = let s = c.args.frame.now in
    let o = c.copy_clear.new.out in
    let l : length s ≤ length o = omega arith in
    let p =
    decrypted (eq_inv_cipher (key_at c.args.keys.now) (key_at c.args.mixed.now)) _ _ _ _ (state c.loop-at.v)
    c.add_round_key-p.ensures c.decrypt.ensures c.load-b.ensures in
    next_block (opened_block c.args.keys.now c.args.mixed.now) (λ u b. b) (cipher (key_at c.args.keys.now))
    s o _ (state c.loop-at.v) (state c.add_round_key-p.result) (state c.load-b.result)
    c.loop-at.at c.loop-at.out _
    c.loop-at.invariant c.loop-at-test.true l p c.load-b.ensures
    (state_length c.add_round_key-p.result) c.store.ensures

pub returns-then-at-frame : goal.returns-then-at-frame
unfolding open_frame_of
returns-then-at-frame c = let o = c.copy_clear.new.out in
    let n : length c.args.frame.now - c.loop-at.at < 16 = omega arith in
    ended (opened_block c.args.keys.now c.args.mixed.now) (λ u b. b) (cipher (key_at c.args.keys.now)) (state c.args.vector)
    c.args.frame.now c.args.out.now o c.requires.in_bounds c.copy_clear.ensures
    (state c.loop-at.v) c.loop-at.at c.loop-at.out _ c.loop-at.invariant n c.put_residual.ensures

pub returns-else-at-frame : goal.returns-else-at-frame
unfolding open_frame_of
returns-else-at-frame c = let o = c.copy_clear.new.out in
    let w : c.loop-at.at ≤ length c.args.frame.now = c.loop-at.invariant.within in
    let n : c.loop-at.at ≡ length c.args.frame.now = omega arith in
    stopped (opened_block c.args.keys.now c.args.mixed.now) (λ u b. b) (cipher (key_at c.args.keys.now)) (state c.args.vector)
    c.args.frame.now c.args.out.now o c.requires.in_bounds c.copy_clear.ensures
    (state c.loop-at.v) c.loop-at.at c.loop-at.out c.loop-at.invariant n

-- `chaining::seal_with` meets its contract: the addresses, the whole blocks, and what is left.
use Rattle.cipher_cbc.proofs.BlockLaws.{sealed_block, Left, opening, short_left, ended, stopped}
use Rattle.cipher_cbc.specs.Blocks.{seal_blocks_of, residual, blocks_end}
use Rattle.cipher_cbc.specs.Cbc.{frame, seal_frame_of}
use Rattle.cipher_aes.specs.Words.{state, key_at}
use Rattle.cipher_aes.specs.declared.words.State.{State}
use Rattle.cipher_aes.specs.Cipher.{cipher}
use lib.ListN.{length, take, drop}
use native.Mathlib.Omega.{arith}
use Prim.Native.Nat.{ℕ, ◌≤◌}
use mathlib.Core.List.{List, ◌++◌}
use mathlib.Core.Path.{◌≡◌, ◌∙◌}
use Rattle.cipher_cbc.proofs.chaining.seal_with.Goals as goal

-- the whole blocks are written: o₀ and o hold the output slice before and after, z what it held as it came
sealed_blocks : (w : List State) (v₀ s z o₀ v o : List ℕ) → 12 ≤ length s → o₀ ≡ take 12 s ++ drop 12 z → length o ≡ length o₀
    → take (blocks_end 12 s) o ++ residual (cipher (key_at w)) v (drop (blocks_end 12 s) s) ≡ take 12 o₀ ++ seal_blocks_of (cipher (key_at w)) v₀ (drop 12 s)
    → drop (blocks_end 12 s) o ≡ drop (blocks_end 12 s) o₀
    → Left (sealed_block w) (sealed_block w) (cipher (key_at w)) s o₀ (frame (sealed_block w) (sealed_block w) (cipher (key_at w)) v₀ s) v (blocks_end 12 s) o
sealed_blocks w v₀ s z o₀ v o h p n d r =
    short_left (sealed_block w) (sealed_block w) (cipher (key_at w)) s o₀ (frame (sealed_block w) (sealed_block w) (cipher (key_at w)) v₀ s) v (blocks_end 12 s) o
    (omega arith) (omega arith) n r (d ∙ opening (sealed_block w) (sealed_block w) (cipher (key_at w)) v₀ s z o₀ h p)

pub returns-then-at-frame : goal.returns-then-at-frame
unfolding seal_frame_of
returns-then-at-frame c = let w = c.args.keys.now in
    let s = c.args.frame.now in
    let o = c.seal_blocks-v.new.out in
    let l = sealed_blocks w (state c.args.vector) s c.args.out.now c.copy_clear.new.out (state c.seal_blocks-v.result) o
    c.requires.in_bounds c.copy_clear.ensures c.seal_blocks-v.auto.out c.seal_blocks-v.ensures.frame_after
    c.seal_blocks-v.ensures.out_unchanged in
    ended (sealed_block w) (sealed_block w) (cipher (key_at w)) (state c.args.vector) s c.args.out.now c.copy_clear.new.out
    c.requires.in_bounds c.copy_clear.ensures (state c.seal_blocks-v.result) (blocks_end 12 s) o _ l (omega arith)
    c.put_residual.ensures

pub returns-else-at-frame : goal.returns-else-at-frame
unfolding seal_frame_of
returns-else-at-frame c = let w = c.args.keys.now in
    let s = c.args.frame.now in
    let o = c.seal_blocks-v.new.out in
    let l = sealed_blocks w (state c.args.vector) s c.args.out.now c.copy_clear.new.out (state c.seal_blocks-v.result) o
    c.requires.in_bounds c.copy_clear.ensures c.seal_blocks-v.auto.out c.seal_blocks-v.ensures.frame_after
    c.seal_blocks-v.ensures.out_unchanged in
    stopped (sealed_block w) (sealed_block w) (cipher (key_at w)) (state c.args.vector) s c.args.out.now c.copy_clear.new.out
    c.requires.in_bounds c.copy_clear.ensures (state c.seal_blocks-v.result) (blocks_end 12 s) o l (omega arith)

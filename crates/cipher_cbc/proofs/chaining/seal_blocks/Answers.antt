-- `chaining::seal_blocks` meets its contract: before each block `Left`, with what was written and what is left.
use Rattle.cipher_cbc.proofs.BlockLaws.{sealed_block, next_block, left_short, encrypted}
use Rattle.cipher_cbc.proofs.SliceLaws.{state_length}
use Rattle.cipher_cbc.specs.Blocks.{residual, blocks_end}
use Rattle.cipher_aes.specs.Words.{state, key_at}
use Rattle.cipher_aes.specs.Cipher.{cipher}
use lib.ListN.{length, take, drop}
use native.Mathlib.Omega.{arith}
use Prim.Native.Nat.{ℕ, ◌-◌, ◌≤◌, ◌<◌}
use mathlib.Core.List.{◌++◌}
use mathlib.Core.Path.{◌≡◌, refl, sym, ap, ◌∙◌}
use borrow.Author.Rules.{rules}
use Rattle.cipher_cbc.proofs.chaining.seal_blocks.Goals as goal

pub loop-at-init : goal.loop-at-init
loop-at-init c = (record { within = search rules; long = refl; rest = refl; done = refl }, refl)

pub loop-at-preserved : goal.loop-at-preserved
loop-at-preserved c = let w = c.args.keys.now in
    let s = c.args.frame.now in
    let o = c.args.out.now in
    let h = c.loop-at-test.true in
    let p = encrypted (cipher (key_at w)) _ _ _ _ (state c.loop-at.v) c.encrypt-c.ensures
    c.add_round_key.ensures c.load-p.ensures in (
      next_block (sealed_block w) (sealed_block w) (cipher (key_at w)) s o _ (state c.loop-at.v) (state c.encrypt-c.result)
          (state c.encrypt-c.result) c.loop-at.at c.loop-at.out _ c.loop-at.invariant.0 h (search rules) p p
          (state_length c.encrypt-c.result) c.store.ensures,
      omega (arith, h, c.loop-at.invariant.1),
    )

pub returns : goal.returns
returns c = let w = c.args.keys.now in
    let s = c.args.frame.now in
    let i = c.loop-at.at in
    let m : length s - i < 16 = omega arith in
    let k : i ≤ length s = c.loop-at.invariant.0.within in
    let n : i ≡ blocks_end c.args.from s = omega (arith, m, k, c.loop-at.invariant.1) in record {
      frame_after = ap (λ (j : ℕ). take j c.loop-at.out ++ residual (cipher (key_at w)) (state c.loop-at.v) (drop j s)) (sym n)
          ∙ left_short (sealed_block w) (sealed_block w) (cipher (key_at w)) s c.args.out.now _ (state c.loop-at.v) i c.loop-at.out
          c.loop-at.invariant.0 m;
      out_unchanged = ap (λ (j : ℕ). drop j c.loop-at.out) (sym n) ∙ c.loop-at.invariant.0.rest ∙ ap (λ (j : ℕ). drop j c.args.out.now) n;
    }

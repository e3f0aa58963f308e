-- `chaining::put_residual` meets its contract: the first j octets of the residual block are written.
use Rattle.cipher_cbc.proofs.SliceLaws.{zeros_sealed, added, added_all}
use Rattle.cipher_aes.specs.Words.{state, key_at}
use Rattle.cipher_aes.specs.Cipher.{cipher}
use Rattle.cipher_aes.specs.Field.{xors}
use lib.Seq.{paste-zero, get_or-take, get_or-drop}
use lib.ListN.{length, length-set, length-take, length-drop, get_or, take, drop, set}
use lib.Bits.{bit_xor}
use native.Mathlib.Omega.{arith}
use Prim.Native.Nat.{ℕ, ◌+◌, ◌-◌, ◌<◌}
use mathlib.Core.List.{List, ◌++◌}
use mathlib.Core.Path.{◌≡◌, refl, ap, ◌∙◌}
use Rattle.cipher_cbc.proofs.chaining.put_residual.Goals as goal

pub loop-j-init : goal.loop-j-init
loop-j-init c = (refl, paste-zero c.args.out.now c.args.at (xors (drop c.args.at c.args.frame.now) c.seal_blocks.new.out))

pub loop-j-preserved : goal.loop-j-preserved
loop-j-preserved c = let s = c.args.frame.now in
    let at = c.args.at in
    let j = c.loop-j.j in
    let b = c.seal_blocks.new.out in
    let l : length b ≡ 16 = c.seal_blocks.auto.out in
    let n = length s - at in
    let h : j < n = omega (arith, length-take n (drop at s), length-drop at s) in
    let is : get_or (take n (drop at s)) j 0 ≡ get_or s (at + j) 0 = get_or-take n (drop at s) j 0 h ∙ get_or-drop at s j 0 in (
      simp length-set c.loop-j.invariant.0,
      rw is (ap (λ (o : List ℕ). set o (at + j) (bit_xor (get_or s (at + j) 0) (get_or b j 0))) c.loop-j.invariant.1
          ∙ added c.args.out.now s b at j (omega arith) (omega arith) (omega arith)),
    )

pub returns : goal.returns
returns c = let s = c.args.frame.now in
    let at = c.args.at in
    let b = c.seal_blocks.new.out in
    let l : length b ≡ 16 = c.seal_blocks.auto.out in
    let f : b ≡ cipher (key_at c.args.keys.now) (state c.args.v) =
    zeros_sealed (cipher (key_at c.args.keys.now)) c.args.v _ b l c.seal_blocks.ensures.frame_after in
    c.loop-j.invariant.1
    ∙ added_all c.args.out.now s b at c.loop-j.j (omega arith) (omega arith) (omega arith)
    ∙ ap (λ (x : List ℕ). take at c.args.out.now ++ xors (drop at s) x ++ drop (length s) c.args.out.now) f

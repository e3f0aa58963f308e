-- `digest::differing` meets its contract: by what `|` and `^` add up to, whichever side of the `|` is first.
use native.Mathlib.Omega.{arith}
use lib.Bits.{bit_xor, or_add_and, or_comm, xor_add_and, and_le_l, and_le_r}
use Rattle.digest_hmac.proofs.SameLaws.{xor_equal}
use Rattle.digest_hmac.proofs.digest.differing.Goals as goal

pub returns : goal.returns
returns c = let d = c.args.so_far in
    let x = c.args.x in
    let y = c.args.y in
    let v = bit_xor x y in (
      λ e. (
        omega (arith, or_add_and d v, or_comm d v, and_le_r d v),
        omega (arith, or_add_and d v, or_comm d v, and_le_l d v, xor_add_and x y, and_le_l x y, and_le_r x y),
      ),
      λ e f. omega (arith, or_add_and d v, or_comm d v, xor_equal x y f),
    )

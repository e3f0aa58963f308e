-- `put_hex` meets its contract.
use Rattle.std.proofs.Common.{◌≡◌, refl, ap, ◌∙◌, ℕ, arith, length, take}
use Rattle.std.proofs.Math.ListN.{length-set}
use Rattle.std.proofs.Math.Seq.{sets, take-length}
use Rattle.text.specs.Hex.{hex_of}
use Rattle.text.proofs.HexLaws.{hex_length, written}
use Rattle.text.proofs.hex.put_hex.Goals as goal

pub loop-x-init : goal.loop-x-init
unfolding hex_of
loop-x-init c = (omega arith, refl, refl)

pub loop-x-preserved : goal.loop-x-preserved
loop-x-preserved c =
    let l = c.loop-x in
    let a = c.args in
    let high = c.hex_digit in
    let low = c.hex_digit-in-loop-x in
    (omega arith, simp length-set l.invariant.1, written a.out.now l.out a.v.now a.at l.x-index l.place high.result low.result (omega arith) l.invariant.0 high.ensures low.ensures l.invariant.2)

pub returns-clause-put : goal.returns-clause-put
returns-clause-put c =
    let l = c.loop-x in
    let a = c.args in
    let all : l.x-index ≡ length a.v.now = omega arith in
    record {
      after = omega (arith, hex_length a.v.now);
      stored = l.invariant.2 ∙ ap (λ (k : ℕ). sets a.out.now a.at (hex_of (take k a.v.now))) all ∙ ap (λ l. sets a.out.now a.at (hex_of l)) (take-length a.v.now);
    }

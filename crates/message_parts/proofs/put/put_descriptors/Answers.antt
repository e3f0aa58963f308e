-- `message_parts::put::put_descriptors` meets its contract.
use mathlib.Core.Path.{◌≡◌, refl}
use Prim.Native.Nat.{min}
use native.Mathlib.Omega.{arith}
use lib.ListN.{length}
use borrow.Author.Rules.{rules}
use Rattle.message_rules.specs.Writing.{descriptors_items}
use Rattle.message_parts.proofs.PartLaws.{descriptors_up_to, descriptors_past, first_descriptors}
use Rattle.message_parts.proofs.Stores.{then_items, wrote_as, wrote_none}
use Rattle.message_parts.proofs.put.put_descriptors.Goals as goal
use Rattle.message_parts.proofs.put.put_descriptors.Goals.{then-i-n, else-i-n}

pub loop-i-init : goal.loop-i-init
unfolding descriptors_items
loop-i-init c = let z : min 0 c.args.n ≡ 0 = omega arith in
    record { wrote = rw z (wrote_none c.args.out.now c.args.len); upper_bound = omega arith }

pub loop-i-preserved : goal.loop-i-preserved
loop-i-preserved c = let s : length c.args.ds ≡ 4 = search rules in
    elim c.if-i-n.branch [
      | then-i-n w ↦ record {
        wrote = rw (w.end-is, w.out-is)
            (wrote_as
            (descriptors_up_to c.args.n c.loop-i.i c.args.ds _ w.if-i-n.true (omega arith) refl)
            (then_items c.loop-i.invariant.wrote w.put_descriptor-end.ensures.wrote));
        upper_bound = omega arith;
      }
      | else-i-n w ↦ record {
        wrote = rw (w.end-is, w.out-is) (wrote_as (descriptors_past c.args.n c.loop-i.i c.args.ds w.if-i-n.false) c.loop-i.invariant.wrote);
        upper_bound = omega arith;
      }
    ]

pub returns : goal.returns
returns c = let s : length c.args.ds ≡ 4 = search rules in
    record { wrote = wrote_as (first_descriptors c.args.n c.loop-i.i c.args.ds (omega arith)) c.loop-i.invariant.wrote; upper_bound = omega arith }

-- `c_layout::layout::put_descriptors` meets its contract.
use mathlib.Core.Path.{◌≡◌, ap}
use native.Mathlib.Omega.{arith}
use lib.ListN.{length}
use lib.Seq.{take_all}
use borrow.Author.Rules.{rules}
use Rattle.key_traffic.proofs.StoreLaws.{then_put, put_as, put_none}
use Rattle.c_layout.specs.Layout.{descriptors_laid}
use Rattle.c_layout.proofs.LayoutLaws.{laid_more}
use Rattle.c_layout.proofs.layout.put_descriptors.Goals as goal

pub loop-d-init : goal.loop-d-init
unfolding descriptors_laid
loop-d-init c = record { put = put_none c.args.out.now c.args.at; counted = omega arith }

pub put_descriptor-end-requires : goal.put_descriptor-end-requires
put_descriptor-end-requires c = let s : length c.args.ds ≡ 4 = search rules in
    omega arith

pub loop-d-preserved : goal.loop-d-preserved
loop-d-preserved c = let s : length c.args.ds ≡ 4 = search rules in record {
  put = put_as (laid_more c.loop-d.d-index c.args.ds (omega arith)) (then_put c.loop-d.invariant.put c.put_descriptor-end.ensures.put);
  counted = omega arith;
}

pub returns : goal.returns
returns c = let s : length c.args.ds ≡ 4 = search rules in
    record { put = put_as (ap descriptors_laid (take_all c.loop-d.d-index c.args.ds (omega arith))) c.loop-d.invariant.put; value = omega arith }

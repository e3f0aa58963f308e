-- `replay::feed` meets its contract.
use mathlib.Core.Path.{refl, ◌∙◌}
use Rattle.replay.specs.Fed.{pending_in}
use Rattle.replay.proofs.FedLaws.{fed_next, fed_over}
use Rattle.replay.proofs.feed.Goals as goal

pub loop-b-init : goal.loop-b-init
loop-b-init c = (c.requires.0, refl, refl)

pub take_octet-reading-requires : goal.take_octet-reading-requires
take_octet-reading-requires c = (c.loop-b.invariant.0, rw c.loop-b.invariant.1 c.requires.1)

pub loop-b-preserved : goal.loop-b-preserved
loop-b-preserved c =
    let l = c.loop-b in (
      c.take_octet-reading.ensures.short,
      c.take_octet-reading.auto.line ∙ l.invariant.1,
      fed_next (pending_in l.reading.replay l.reading.count l.line) _ l.b-index c.args.input.now _ c.loop-b-test.true c.take_octet-reading.ensures.is l.invariant.2,
    )

pub returns : goal.returns
returns c =
    let l = c.loop-b in
    record { is = fed_over (pending_in l.reading.replay l.reading.count l.line) l.b-index c.args.input.now _ c.loop-b-test.false l.invariant.2; short = l.invariant.0 }

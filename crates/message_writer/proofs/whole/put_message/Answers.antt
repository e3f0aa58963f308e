-- `message_writer::whole::put_message` meets its contract.
use mathlib.Core.Path.{ap, ◌∙◌}
use native.Mathlib.Omega.{arith}
use lib.ListN.{length}
use lib.Seq.{length-sets}
use Rattle.message_rules.specs.Attributes.{octets}
use Rattle.message_parts.specs.Parts.{front_items}
use Rattle.message_writer.proofs.WholeLaws.{length_counted, finished_length, finished_is}
use Rattle.message_writer.proofs.whole.put_message.Goals as goal

pub finish-requires : goal.finish-requires
finish-requires c = let a = c.args in
    let p = c.requires in
    let w = c.put_front-before.ensures.wrote in
    (omega arith, omega (arith, p.1, length_counted a.f a.auth.now p.0.low p.0.high w, ap length w.stored, length-sets a.out.now 4 (octets (front_items a.f a.auth.now))))

pub returns : goal.returns
returns c = let a = c.args in
    let p = c.requires in
    let w = c.put_front-before.ensures.wrote in
    let done = c.finish.ensures in (
      done.0 ∙ finished_length a.f a.auth.now p.0.low p.0.high w a.key.now,
      done.1 ∙ finished_is a.f a.auth.now p.0.low p.0.high w a.key.now p.1,
    )

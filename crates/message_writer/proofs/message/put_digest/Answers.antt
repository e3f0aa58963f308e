-- `message_writer::message::put_digest` meets its contract.
use mathlib.Core.Path.{◌≡◌, sym, ◌∙◌}
use mathlib.Core.Bool.{true, false}
use native.Mathlib.Omega.{arith}
use Rattle.message_rules.specs.Ranges.{is_required_of}
use Rattle.message_parts.specs.Parts.{digest_items}
use Rattle.message_rules.proofs.HoldsLaws.{never}
use Rattle.message_parts.proofs.Stores.{wrote_none}
use Rattle.message_writer.proofs.message.put_digest.Goals as goal

pub returns-else-is_required : goal.returns-else-is_required
unfolding digest_items
returns-else-is_required c = let e : is_required_of c.args.code 11 ≡ false = sym c.is_required.ensures ∙ c.if-is_required.false in
    record { wrote = rw e (wrote_none _ _); upper_bound = (omega arith, λ h. never (sym e ∙ h)) }

pub returns-then-is_required : goal.returns-then-is_required
unfolding digest_items
returns-then-is_required c = let e : is_required_of c.args.code 11 ≡ true = sym c.is_required.ensures ∙ c.if-is_required.true in
    record { wrote = rw e c.put_attr.ensures.wrote; upper_bound = (omega arith, λ h. omega arith) }

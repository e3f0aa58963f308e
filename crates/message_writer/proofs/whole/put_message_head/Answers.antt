-- `message_writer::whole::put_message_head` meets its contract: Length's octets are the two that `two_octets` gives, in their order.
use mathlib.Core.Path.{ap, ◌∙◌}
use mathlib.Core.List.{List, [], ◌∷◌}
use Prim.Native.Nat.{ℕ}
use lib.ListN.{get_or}
use Rattle.std.proofs.lemmas.List.Edits.{sets}
use Rattle.message_rules.specs.Attributes.{two}
use Rattle.message_writer.proofs.whole.put_message_head.Goals as goal

pub returns : goal.returns
unfolding two
returns c =
    c.put_octets.ensures.stored
    ∙ ap (λ (l : List ℕ). sets c.args.out.now 0 (c.args.code ∷ c.args.identifier ∷ get_or l 0 0 ∷ get_or l 1 0 ∷ [])) c.two_octets.ensures

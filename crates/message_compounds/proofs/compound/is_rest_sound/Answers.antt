-- `message_compounds::compound::is_rest_sound` meets its contract.
use Rattle.message_compounds.proofs.InsideLaws.{sound_13}
use Rattle.message_compounds.specs.Compounds.{rest_sound_of, inside_at_of}
use borrow.Author.Tests.{le-leb, lt-leb}
use Rattle.message_compounds.proofs.compound.is_rest_sound.Goals as goal

pub returns-then-count-le-KEY_REPLY_PARAMS : goal.returns-then-count-le-KEY_REPLY_PARAMS
unfolding rest_sound_of
returns-then-count-le-KEY_REPLY_PARAMS c = simp (le-leb _ _ c.if-count-le-KEY_REPLY_PARAMS.true)

pub returns-else-count-le-KEY_REPLY_PARAMS : goal.returns-else-count-le-KEY_REPLY_PARAMS
unfolding rest_sound_of inside_at_of
returns-else-count-le-KEY_REPLY_PARAMS c = simp (lt-leb _ _ c.if-count-le-KEY_REPLY_PARAMS.false)
    (rw (
      c.pass_inside.ensures,
      c.pass_inside-else-count-le-KEY_REPLY_PARAMS.ensures,
      sound_13 c.part_at.result.now,
      sound_13 c.part_at-else-count-le-KEY_REPLY_PARAMS.result.now,
      c.part_at.ensures,
      c.part_at-else-count-le-KEY_REPLY_PARAMS.ensures,
    ))

-- `headend_steps::listing::list_answer` meets its contract.
use mathlib.Core.Path.{refl, sym}
use Rattle.message_rules.proofs.AskLaws.{asked_yes}
use Rattle.headend_steps.specs.Listing.{list_questions, list_answer_of}
use Rattle.headend_steps.proofs.listing.list_answer.Goals as goal

pub returns : goal.returns
unfolding list_answer_of list_questions
returns c = let q1 = asked_yes _ _ c.in_ok-ask.ensures in
    let q2 = asked_yes _ _ c.in_ok-ask-2.ensures in
    let q3 = asked_yes _ _ c.in_ok-ask-3.ensures in
    rw (
      c.ask-4.ensures,
      c.all_apart.ensures,
      c.saids_differ.ensures,
      sym c.head_fits.ensures,
      sym c.records_fit.ensures,
      sym c.address_fits.ensures,
      sym c.listing_fits.ensures,
      q1,
      sym c.is_material.ensures,
      q2,
      sym c.has_room.ensures,
      sym c.has_room-2.ensures,
      q3,
    ) refl

-- `modem_steps::slots::slot_of_said` meets its contract.
use borrow.Author.Rules.{rules}
use borrow.Author.Tests.{tests}
use lib.Dec.{eqb}
use Rattle.std.proofs.lemmas.Iterator.{YieldsList-from_slice, YieldsList-from_take}
use Rattle.std.proofs.lemmas.Iterator.Search.{position_from_yields_List}
use Rattle.modem_steps.proofs.SlotLaws.{first_found}
use Rattle.modem_steps.proofs.slots.slot_of_said.Goals as goal

pub returns : goal.returns
returns c = let a = c.args in
    first_found (λ t. eqb t.said a.said) a.m c.position.result c.unwrap_or.result (search rules)
    (position_from_yields_List (λ t. eqb t.said a.said) _ _ c.position.result c.position.ensures.ran
    (YieldsList-from_take a.m.used (YieldsList-from_slice a.m.teks cc) c.take.ensures.count) (λ x b q k. search (rules, tests)))
    c.unwrap_or.ensures

-- `modem_receive::events::invalidated` meets its contract.
use Prim.Native.Nat.{◌<◌}
use native.Mathlib.Omega.{arith}
use lib.Dec.{leb, ltb}
use mathlib.Core.Path.{◌∙◌}
use borrow.Author.Tests.{leb-true, ltb-true, lt-ltb, ne_eqb}
use Rattle.questions.proofs.TestLaws.{both}
use Rattle.modem_steps.specs.Slots.{slot_asking_of}
use Rattle.modem_receive.specs.Events.{invalidated}
use Rattle.modem_receive.proofs.events.invalidated.Goals as goal

pub returns-then-identifier-slot : goal.returns-then-identifier-slot
unfolding invalidated
returns-then-identifier-slot c = let a = c.args in
    let found = both (leb 1 a.identifier) (ltb c.slot_asking-slot.result 4) c.if-identifier-slot.true in
    let some : 0 < a.identifier = omega (arith, leb-true 1 a.identifier found.0) in
    let small : slot_asking_of a.m a.identifier < 4 = omega (arith, c.slot_asking-slot.ensures.0, ltb-true c.slot_asking-slot.result 4 found.1) in
    simp (ne_eqb _ _ (λ e. c.if-authorization_next-eq-BLANK.false (c.authorization_next.ensures ∙ e)), lt-ltb 0 a.identifier some, lt-ltb (slot_asking_of a.m a.identifier) 4 small) (simp (c.plain_event-w.ensures.0, c.start-2.ensures, c.slot_asking-slot.ensures.0) at c.deliver.ensures.0)

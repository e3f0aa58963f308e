-- `modem_calls::calls::new` meets its contract.
use lib.Dec.{ltb, leb}
use mathlib.Core.Bool.{Bool, ◌&&◌}
use mathlib.Core.Path.{sym, ◌∙◌, ap}
use Rattle.modem_calls.specs.Calls.{new_value, new_questions}
use Rattle.modem_calls.proofs.calls.new.Goals as goal

pub returns-then-settings_fit-address : goal.returns-then-settings_fit-address
unfolding new_value new_questions
returns-then-settings_fit-address c = let both = ap (λ (b : Bool). b && ltb c.args.address 281474976710656 && leb c.args.said 16383) (sym c.settings_fit.ensures) ∙ c.if-settings_fit-address.true in
    simp both (cc)

pub returns-else-settings_fit-address : goal.returns-else-settings_fit-address
unfolding new_value new_questions
returns-else-settings_fit-address c = let both = ap (λ (b : Bool). b && ltb c.args.address 281474976710656 && leb c.args.said 16383) (sym c.settings_fit.ensures) ∙ c.if-settings_fit-address.false in
    simp both (cc)

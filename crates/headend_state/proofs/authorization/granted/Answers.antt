-- `headend_state::authorization::granted` meets its contract.
use mathlib.Core.Path.{◌∙◌}
use native.Mathlib.Omega.{arith}
use Rattle.headend_state.proofs.AuthorizationLaws.{two_active, one_active, none_active}
use Rattle.headend_state.proofs.authorization.granted.Goals as goal

pub returns-then-clock-k : goal.returns-then-clock-k
returns-then-clock-k c = let x = c.args in
    two_active x.life x.clock x.k c.if-clock-k.true (omega (arith, c.if-clock-k.true, c.requires.ordered))

pub returns-then-clock-k-2 : goal.returns-then-clock-k-2
returns-then-clock-k-2 c = let x = c.args in
    c.with_key.ensures ∙ one_active x.life x.clock x.k c.if-clock-k.false c.if-clock-k-2.true

pub returns-else-clock-k-2 : goal.returns-else-clock-k-2
returns-else-clock-k-2 c = let x = c.args in
    c.with_key-else-clock-k-2.ensures ∙ none_active x.life x.clock x.k c.if-clock-k.false c.if-clock-k-2.false

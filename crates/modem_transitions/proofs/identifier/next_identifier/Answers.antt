-- `modem_transitions::identifier::next_identifier` meets its contract.
use Rattle.std.proofs.Common.{Bool, cond, sym, ap, eq-eqb}
use Rattle.modem_transitions.specs.Identifier.{wrapped}
use Rattle.modem_transitions.proofs.identifier.next_identifier.Goals as goal

pub returns-in-0 : goal.returns-in-0
returns-in-0 c = sym (ap (λ (b : Bool). cond b 1 (wrapped c.args.counter)) (eq-eqb _ _ c.in-0.is))

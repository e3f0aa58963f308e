-- What an Authorization Reply does to the modem (document 01, "Modem: authorization machine").
use Rattle.std.specs.Prelude.{cond, eqb}
use Rattle.message_rules.specs.declared.fields.Fields.{Fields}
use Rattle.modem_transitions.specs.Transitions.{D}
use Rattle.modem_steps.specs.declared.state.Modem.{Modem}
use Rattle.modem_steps.specs.declared.state.Progress.{Progress}
use Rattle.modem_steps.specs.State.{starting}
use Rattle.modem_reply.specs.Relist.{listed_anew_of, relisted}
use Rattle.modem_steps.specs.Machine.{deliver_auth_of}

-- A Reply. It is taken in B and D alone: question 11 asks for a waiting Request
unfoldable pub replied : Modem → Fields → Progress
replied m f =
    cond (eqb m.authorization.state D) (relisted f (deliver_auth_of (starting m) 4 f.ak f.life))
    (listed_anew_of f (deliver_auth_of (starting m) 4 f.ak f.life))

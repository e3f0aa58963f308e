-- `headend_state::authorization::is_active` meets its contract.
use mathlib.Core.Path.{◌∙◌, ap}
use Rattle.key_traffic.specs.Numbers.{same_ak_of}
use Rattle.key_traffic.specs.declared.numbers.AkNumber.{AkNumber}
use Rattle.headend_state.proofs.AuthorizationLaws.{active_by}
use Rattle.headend_state.proofs.authorization.is_active.Goals as goal

pub returns : goal.returns
returns c = let x = c.args in
    let first = c.eq.ensures ∙ ap (λ (n : AkNumber). same_ak_of n x.number) c.ak_after.ensures in
    let second = c.eq-2.ensures ∙ ap (λ (n : AkNumber). same_ak_of n x.number) c.ak_after-2.ensures in
    active_by x.clock x.k x.number _ _ first second

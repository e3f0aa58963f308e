-- The rows on the machines' steps hold.
use mathlib.Core.Path.{◌≡◌}
use Rattle.message_rules.specs.declared.fields.Params.{Params}
use Rattle.modem_tek.specs.declared.tek.Tek.{Tek}
use Rattle.modem_tek.specs.declared.tek.TekContext.{TekContext}
use Rattle.modem_transitions.specs.Transitions.{C, D, F, next_in, tek_transitions, authorization_transitions}
use Rattle.modem_tek.specs.TekParts.{no_pair_of, nothing}
use Rattle.modem_tek.specs.Tek.{tek_stays, tek_step_of, tek_moved, tek_sends_of, identifier_after_of, pair_after_of}
use Rattle.modem_authorization.specs.declared.authorization.Authorization.{Authorization}
use Rattle.modem_authorization.specs.declared.authorization.AuthContext.{AuthContext}
use Rattle.modem_authorization.specs.Authorization.{auth_identifier, requests_of, auth_moved, auth_step_of}

pub in_d : (t : Tek) (x : TekContext) (older newer : Params) → t.state ≡ D → tek_step_of t 8 x older newer ≡ tek_stays t x
unfolding tek_step_of next_in tek_transitions
in_d t x older newer e = simp e

pub in_f : (t : Tek) (x : TekContext) (older newer : Params) → t.state ≡ F → (tek_step_of t 5 x older newer).machine.state ≡ C
unfolding tek_step_of tek_moved next_in tek_transitions
in_f t x older newer e = simp e

pub in_f_keys : (t : Tek) (x : TekContext) (older newer : Params) → t.state ≡ F → (tek_step_of t 5 x older newer).machine.pair ≡ no_pair_of
unfolding tek_step_of tek_moved pair_after_of next_in tek_transitions
in_f_keys t x older newer e = simp e

pub in_f_sends : (t : Tek) (x : TekContext) (older newer : Params) → t.state ≡ F → (tek_step_of t 5 x older newer).sends ≡ nothing
unfolding tek_step_of tek_moved tek_sends_of next_in tek_transitions
in_f_sends t x older newer e = simp e

pub in_c : (a : Authorization) (x : AuthContext) → a.state ≡ C → (auth_step_of a 7 x).machine.state ≡ D
unfolding auth_step_of auth_moved next_in authorization_transitions
in_c a x e = simp e

pub key_after : (t : Tek) (x : TekContext) (older newer : Params) → t.state ≡ D → x.counter ≡ 255 → (tek_step_of t 7 x older newer).sends.identifier ≡ 1
unfolding tek_step_of tek_moved tek_sends_of identifier_after_of next_in tek_transitions
key_after t x older newer e full = simp (e, full)

pub auth_after : (a : Authorization) (x : AuthContext) → a.state ≡ C → x.counter ≡ 255 → (auth_step_of a 6 x).requests.identifier ≡ 1
unfolding auth_step_of auth_moved requests_of auth_identifier next_in authorization_transitions
auth_after a x e full = simp (e, full)

-- What a step of either machine asks follows from the clock and the settings.
use mathlib.Core.Path.{◌≡◌, sym, subst}
use Prim.Native.Nat.{ℕ, ◌≤◌}
use native.Mathlib.Omega.{arith}
use Rattle.key_traffic.specs.declared.numbers.AkNumber.{AkNumber}
use Rattle.message_rules.specs.declared.fields.Params.{Params}
use Rattle.message_rules.specs.Fields.{no_params_of}
use Rattle.modem_tek.specs.declared.tek.TekContext.{TekContext}
use Rattle.modem_authorization.specs.declared.authorization.AuthContext.{AuthContext}
use Rattle.modem_tek.specs.Tek.{TekReady}
use Rattle.modem_authorization.specs.Authorization.{AuthReady}
use Rattle.modem_steps.specs.declared.state.Modem.{Modem}
use Rattle.modem_steps.specs.declared.state.Progress.{Progress}
use Rattle.modem_steps.specs.State.{Ready, starting}
use Rattle.modem_steps.specs.Slots.{tek_context_of}
use Rattle.modem_steps.specs.Machine.{auth_context_of}

pub tek_ready : (m : Modem) (x : TekContext) (older newer : Params) → x ≡ tek_context_of m → Ready m → older.life ≤ 604800 → newer.life ≤ 604800 → TekReady x older newer
tek_ready m x older newer e r o n =
    subst (λ (y : TekContext). TekReady y older newer) (sym e)
    (record { clock_small = r.clock_small; operational_small = r.operational_small; rekey_small = r.rekey_small; older_small = o; newer_small = n })

pub none_short : (p : Params) → p ≡ no_params_of → p.life ≤ 604800
none_short p e = subst (λ (q : Params). q.life ≤ 604800) (sym e) (omega arith)

pub auth_ready : (m : Modem) (x : AuthContext) (ak : AkNumber) (life : ℕ) → x ≡ auth_context_of m ak life → Ready m → life ≤ 12096000 → AuthReady x
auth_ready m x ak life e r l =
    subst AuthReady (sym e)
    (record {
      clock_small = r.clock_small;
      authorize_small = r.authorize_small;
      reauthorize_small = r.reauthorize_small;
      reject_small = r.reject_small;
      life_small = l;
    })

pub started_ready : (m : Modem) (w : Progress) → w ≡ starting m → Ready m → Ready w.modem
started_ready m w e r = subst (λ (v : Progress). Ready v.modem) (sym e) r

-- The modem's state with parts exchanged, and the messages of one call.
use Rattle.std.specs.Prelude.{ℕ, ◌+◌, ◌≤◌, cond, List, [], eqb, leb, get_or, set, replicate}
use Rattle.questions.specs.declared.settings.Settings.{Settings}
use Rattle.questions.specs.declared.settings.Waits.{Waits}
use Rattle.key_traffic.specs.declared.traffic.TrafficKey.{TrafficKey}
use Rattle.modem_authorization.specs.declared.authorization.Authorization.{Authorization}
use Rattle.modem_tek.specs.declared.parts.Request.{Request}
use Rattle.modem_tek.specs.declared.tek.Tek.{Tek}
use Rattle.modem_transitions.specs.Timers.{off}
use Rattle.modem_tek.specs.TekParts.{no_pair_of, nothing}
use Rattle.modem_steps.specs.declared.state.Modem.{Modem}
use Rattle.modem_steps.specs.declared.state.Out.{Out}
use Rattle.modem_steps.specs.declared.state.Progress.{Progress}

-- ---- parts exchanged
abbrev pub with_machines : Modem → ℕ → Authorization → ℕ → List Tek → Modem
with_machines m counter a used teks =
    record {
      settings = m.settings;
      address = m.address;
      said = m.said;
      clock = m.clock;
      counter = counter;
      authorization = a;
      used = used;
      teks = teks;
      taken = m.taken;
      refused = m.refused;
    }

abbrev pub with_clock_of : Modem → ℕ → Modem
with_clock_of m t =
    record {
      settings = m.settings;
      address = m.address;
      said = m.said;
      clock = t;
      counter = m.counter;
      authorization = m.authorization;
      used = m.used;
      teks = m.teks;
      taken = m.taken;
      refused = m.refused;
    }

-- ---- slots

-- A slot that is not in use
abbrev pub no_tek_of : Tek
no_tek_of = record { said = 0; suite = 0; state = 0; identifier = 0; timer = off; pair = no_pair_of }

-- What a reading past the slots gives; no call reaches it
abbrev pub past_key : TrafficKey
past_key = record { number = record { 0 = 0 }; deadline = 0; tek = []; vector = [] }

abbrev pub past_tek : Tek
past_tek = record { said = 0; suite = 0; state = 0; identifier = 0; timer = off; pair = record { held = 0; older = past_key; newer = past_key } }

abbrev pub slot_at : Modem → ℕ → Tek
slot_at m i = get_or m.teks i past_tek

-- ---- messages
abbrev pub no_out_of : Out
no_out_of = record { count = 0; sent = replicate 6 nothing }

-- One message more, where there is one; `CallMessages` of crate `modem_calls` shows that none is dropped
unfoldable pub with_message_of : Out → Request → Out
with_message_of o r = cond (eqb r.code 0) o (cond (leb 6 o.count) o (record { count = o.count + 1; sent = set o.sent o.count r }))

abbrev pub starting : Modem → Progress
starting m = record { modem = m; out = no_out_of }

-- ---- a fresh modem (document 01, "Settings"): clock 0, nothing waiting, no SAID known; its own SAID is only sent
abbrev pub fresh_authorization : Authorization
fresh_authorization = record { state = 0; identifier = 0; ak = record { 0 = 0 }; timer = off }

abbrev pub fresh_of : Settings → ℕ → ℕ → Modem
fresh_of settings address said =
    record {
      settings = settings;
      address = address;
      said = said;
      clock = 0;
      counter = 0;
      authorization = fresh_authorization;
      used = 0;
      teks = replicate 4 no_tek_of;
      taken = 0;
      refused = 0;
    }

-- ---- what a step asks so that no sum wraps; it is about the clock and the settings, which no step changes
pub record ReadyAt (clock : ℕ) (w : Waits) : Type 0 where
  pub clock_small : clock ≤ 1000000000000
  pub authorize_small : w.authorize ≤ 600
  pub reauthorize_small : w.reauthorize ≤ 600
  pub operational_small : w.operational ≤ 600
  pub rekey_small : w.rekey ≤ 600
  pub reject_small : w.reject ≤ 600

abbrev pub Ready : Modem → Type 0
Ready m = ReadyAt m.clock m.settings.waits

-- What is written for a line of set-up and at the end of a run, by the stage where the run stands.
use mathlib.Core.Path.{◌≡◌, refl, sym, ◌∙◌, ap, subst}
use mathlib.Core.Bool.{Bool, true, false, cond}
use mathlib.Core.List.{List, []}
use Prim.Native.Nat.{ℕ, ◌≤◌}
use native.Mathlib.Omega.{arith}
use lib.ListN.{length}
use Rattle.std.specs.Prelude.{Some, None}
use Rattle.key_traffic.specs.Octets.{overlay}
use Rattle.replay_read.specs.declared.setup.ReadModem.{ReadModem}
use Rattle.replay_answer.specs.Answer.{answer_line}
use Rattle.replay_apply.specs.declared.ends.Ends.{Ends}
use Rattle.replay.specs.declared.start.Stage.{Stage}
use Rattle.replay.specs.declared.start.Stage.TheVariants.{Stopped}
use Rattle.replay.specs.declared.start.Replay.{Replay}
use Rattle.replay.specs.declared.lines.Taken.{Taken}
use Rattle.replay.specs.Turn.{no_call_text}
use Rattle.replay.specs.Replay.{both_fit_of, start_text, limits_text, modem_text, end_text_at}
use Rattle.replay.specs.Takes.{Takes}

-- ---- what is written for it
abbrev Says : List ℕ → List ℕ → ℕ → List ℕ → Type 0
Says text out n after = ((n ≡ length text) × (after ≡ overlay out text)) × (n ≤ answer_line)

pub start-refused : (form : Bool) (n : ℕ) (out after : List ℕ) → form ≡ false → n ≡ 2 → after ≡ overlay out no_call_text → Says (start_text form) out n after
start-refused form n out after h p q = subst (λ b. Says (start_text b) out n after) (sym h) ((p, q), omega (arith, p))

pub modem_no_form : (s : Replay) (n : ℕ) (out after : List ℕ) → n ≡ 2 → after ≡ overlay out no_call_text → Says (modem_text None s) out n after
modem_no_form s n out after p q = ((p, q), omega (arith, p))

pub modem-fits : (r : ReadModem) (s : Replay) (b : Bool) (out : List ℕ) → b ≡ both_fit_of s.settings r.address r.said → b ≡ true → Says (modem_text (Some r) s) out 0 out
modem-fits r s b out f t = subst (λ x. Says (cond x [] limits_text) out 0 out) (sym t ∙ f) ((refl, refl), omega arith)

pub modem_out_of_limits : (r : ReadModem) (s : Replay) (b : Bool) (n : ℕ) (out after : List ℕ)
    → b ≡ both_fit_of s.settings r.address r.said → b ≡ false → n ≡ 2 → after ≡ overlay out limits_text → Says (modem_text (Some r) s) out n after
modem_out_of_limits r s b n out after f t p q = subst (λ x. Says (cond x [] limits_text) out n after) (sym t ∙ f) ((p, q), omega (arith, p))

-- ---- by the stage
pub taken_at : (s : Replay) (line out after : List ℕ) (r : Taken) (k : Stage) → s.stage ≡ k → Takes k s line out r after → Takes s.stage s line out r after
taken_at s line out after r k h x = subst (λ (z : Stage). Takes z s line out r after) (sym h) x

pub taken_none : (s : Replay) (line out : List ℕ) (r : Taken) → r ≡ record { count = 0; replay = s } → Takes Stopped s line out r out
taken_none s line out r e =
    record {
      run = ap (λ (y : Taken). y.replay) e;
      count = ap (λ (y : Taken). y.count) e;
      short = let h : r.count ≡ 0 = ap (λ (y : Taken). y.count) e in omega (arith, h);
      written = refl;
    }

abbrev Ended : Stage → Ends → List ℕ → ℕ → List ℕ → Type 0
Ended k e out n after = (n ≡ length (end_text_at k e)) × ((after ≡ overlay out (end_text_at k e)) × (n ≤ answer_line))

pub ended_at : (s : Replay) (out after : List ℕ) (n : ℕ) (k : Stage) → s.stage ≡ k → Ended k s.ends out n after → Ended s.stage s.ends out n after
ended_at s out after n k h x = subst (λ (z : Stage). Ended z s.ends out n after) (sym h) x

-- What question 1 of a call, and an accepted message whose SAID is known, give to the steps that follow.
use mathlib.Core.Path.{◌≡◌, refl}
use mathlib.Core.List.{List, []}
use mathlib.Core.Bool.{Bool, true, false, ◌&&◌, cond}
use Prim.Native.Nat.{ℕ, ◌≤◌, ◌<◌}
use native.Mathlib.Omega.{arith}
use lib.Dec.{leb}
use borrow.Author.Tests.{leb-true, ltb-true}
use Rattle.questions.specs.Answer.{Done}
use Rattle.questions.specs.declared.settings.Settings.{Settings}
use Rattle.questions.specs.Settings.{tek_times_fit_of, ak_times_fit_of, wait_fits_of, waits_fit_of, settings_fit_of}
use Rattle.questions.proofs.TestLaws.{both}
use Rattle.message_rules.specs.declared.fields.Receiver.TheVariants.{Modem as AtModem}
use Rattle.message_rules.specs.Attributes.{Item, items, items_with, values, value_at, be32}
use Rattle.message_rules.specs.Ranges.{is_required_of}
use Rattle.message_rules.specs.Messages.{code_of, identifier_of, body_of, receives, message_answer}
use Rattle.message_rules.specs.Fields.{carried, params_of, fields_of}
use Rattle.message_rules.specs.Reading.{taken_of}
use Rattle.message_rules.proofs.HoldsLaws.{never}
use Rattle.message_rules.proofs.CodesLaws.{by_code}
use Rattle.message_rules.proofs.MessageAnswers.{answer_done}
use Rattle.message_rules.proofs.PartsWritten.{params_fit}
use Rattle.message_rules.proofs.PartsRead.{params_read_fit}
use Rattle.message_rules.proofs.TakenLaws.{Taken, taken, asked, inside_13, told_13}
use Rattle.message_rules.proofs.ReadFits.{life_ranged}
use Rattle.modem_steps.specs.declared.state.Modem.{Modem}
use Rattle.modem_steps.specs.State.{ReadyAt, Ready}
use Rattle.modem_steps.specs.Slots.{slot_of_said_of}
use Rattle.modem_receive.specs.Receive.{of_said_of, is_known_of, said_known_of, fields_in, Takeable}
use Rattle.modem_limits.specs.Limits.{modem_fits_of}

-- ---- a modem within its limits is ready
wait_small : (n : ℕ) → wait_fits_of n ≡ true → n ≤ 600
unfolding wait_fits_of
wait_small n e = leb-true n 600 (both (leb 1 n) (leb n 600) e).1

pub waits_ready : (clock : ℕ) (s : Settings) → clock ≤ 1000000000000 → settings_fit_of s ≡ true → ReadyAt clock s.waits
unfolding settings_fit_of waits_fit_of
waits_ready clock s c e =
    let w = both (tek_times_fit_of s.tek && ak_times_fit_of s.ak) (waits_fit_of s.waits) e in
    let w₅ = both _ _ w.1 in
    let w₄ = both _ _ w₅.0 in
    let w₃ = both _ _ w₄.0 in
    let w₂ = both _ _ w₃.0 in
    record {
      clock_small = c;
      authorize_small = wait_small s.waits.authorize w₂.0;
      reauthorize_small = wait_small s.waits.reauthorize w₂.1;
      operational_small = wait_small s.waits.operational w₃.1;
      rekey_small = wait_small s.waits.rekey w₄.1;
      reject_small = wait_small s.waits.reject w₅.1;
    }

pub fits_ready : (m : Modem) → modem_fits_of m ≡ true → Ready m
unfolding modem_fits_of
fits_ready m e =
    let s₁₀ = both _ _ e in
    let s₉ = both _ _ s₁₀.0 in
    let s₈ = both _ _ s₉.0 in
    let s₇ = both _ _ s₈.0 in
    let s₆ = both _ _ s₇.0 in
    let s₅ = both _ _ s₆.0 in
    let s₄ = both _ _ s₅.0 in
    let s₃ = both _ _ s₄.0 in
    let s₂ = both _ _ s₃.0 in
    let s₁ = both _ _ s₂.0 in
    waits_ready m.clock m.settings (leb-true m.clock 1000000000000 s₁.1) s₁.0

-- ---- the lives of an accepted message
module _ (c i : ℕ) (l : List Item) (t : Taken c l) where
  life_most : (fields_of c i l).life ≤ 12096000
  unfolding fields_of carried be32
  life_most = go (is_required_of c 9) refl
    where
      go : (b : Bool) → is_required_of c 9 ≡ b → be32 (cond b (value_at 9 0 l) []) ≤ 12096000
      go true h = leb-true (be32 (value_at 9 0 l)) 12096000 (both (leb 1 (be32 (value_at 9 0 l))) (leb (be32 (value_at 9 0 l)) 12096000) (life_ranged c l t h).1).1
      go false h = omega arith

  param_most : (n : ℕ) → n < 2 → (params_of (carried c 13 n l)).life ≤ 604800
  unfolding carried params_of items items_with value_at values be32
  param_most n h = go (is_required_of c 13) refl
    where
      go : (b : Bool) → is_required_of c 13 ≡ b → (params_of (cond b (value_at 13 n l) [])).life ≤ 604800
      go true q = (params_fit (params_of (value_at 13 n l)) (params_read_fit (value_at 13 n l) (inside_13 c l t n q h) (told_13 c l t n q h))).high
      go false q = omega arith

-- ---- the SAID's slot
one_of_three : (c : ℕ) → 4 ≤ c → c ≤ 12 → receives AtModem c ≡ true → (c ≡ 5 → ⊥) → (c ≡ 6 → ⊥) → (c ≡ 10 → ⊥) → of_said_of c ≡ true
unfolding receives
one_of_three =
    by_code (λ c. receives AtModem c ≡ true → (c ≡ 5 → ⊥) → (c ≡ 6 → ⊥) → (c ≡ 10 → ⊥) → of_said_of c ≡ true)
    (λ e n₅ n₆ n₁₀. never e)
    (λ e n₅ n₆ n₁₀. absurd (n₅ refl))
    (λ e n₅ n₆ n₁₀. absurd (n₆ refl))
    (λ e n₅ n₆ n₁₀. never e)
    (λ e n₅ n₆ n₁₀. refl)
    (λ e n₅ n₆ n₁₀. refl)
    (λ e n₅ n₆ n₁₀. absurd (n₁₀ refl))
    (λ e n₅ n₆ n₁₀. refl)
    (λ e n₅ n₆ n₁₀. never e)

-- An accepted message whose SAID is known can be taken
pub takeable : (m : Modem) (s : List ℕ) → message_answer AtModem s ≡ Done → said_known_of m (fields_in s) ≡ true → Takeable m (fields_in s)
unfolding taken_of fields_of said_known_of
takeable m s d k =
    let t = taken AtModem s d in
    let c = code_of s in
    let l = items (body_of s) in
    record {
      life_small = life_most c (identifier_of s) l t;
      older_small = param_most c (identifier_of s) l t 0 (omega arith);
      newer_small = param_most c (identifier_of s) l t 1 (omega arith);
      known = λ n₅ n₆ n₁₀.
          let one = one_of_three c t.low t.high ((answer_done AtModem s).0 d).1 n₅ n₆ n₁₀ in
          ltb-true (slot_of_said_of m (fields_in s).said) 4 (asked (of_said_of c) (is_known_of m (fields_in s).said) k one);
    }

-- A message that is taken, and a fresh modem, are within the limits; and what each step keeps, as question 1 asks it.
use mathlib.Core.Path.{◌≡◌, refl}
use mathlib.Core.Bool.{Bool, true, false, ◌&&◌}
use mathlib.Core.List.{List}
use Prim.Native.Nat.{ℕ, ◌+◌, ◌≤◌, ◌<◌}
use native.Mathlib.Omega.{arith}
use lib.Dec.{ltb, eqb}
use lib.ListN.{replicate}
use borrow.Author.Tests.{ltb-true, le-leb, lt-ltb, eqb-true, eq-eqb}
use Rattle.questions.specs.Answer.{Done}
use Rattle.questions.specs.declared.settings.Settings.{Settings}
use Rattle.questions.specs.Settings.{settings_fit_of}
use Rattle.key_traffic.specs.Suites.{width_of}
use Rattle.key_traffic.specs.Octets.{all_zero}
use Rattle.key_traffic.specs.Traffic.{key_fits_of, follows, pair_fits_of}
use Rattle.questions.proofs.TestLaws.{both}
use Rattle.message_rules.specs.declared.fields.Fields.{Fields}
use Rattle.message_rules.specs.declared.fields.Params.{Params}
use Rattle.message_rules.specs.declared.fields.Receiver.TheVariants.{Modem as AtModem}
use Rattle.message_rules.specs.Messages.{code_of, identifier_of, message_answer}
use Rattle.message_rules.specs.Ranges.{required_of, among, is_required_of}
use Rattle.message_rules.specs.Fields.{fields_of}
use Rattle.message_rules.specs.Reading.{taken_of}
use Rattle.message_rules.specs.Limits.{head_fits_of}
use Rattle.message_rules.proofs.FieldsFit.{pair_ok}
use Rattle.message_rules.proofs.PartsWritten.{PairFit}
use Rattle.modem_transitions.specs.Transitions.{D, blank, authorization_next_of}
use Rattle.modem_tek.specs.TekParts.{pair_of}
use Rattle.modem_steps.specs.declared.state.Modem.{Modem}
use Rattle.modem_steps.specs.declared.state.Progress.{Progress}
use Rattle.modem_steps.specs.State.{slot_at, starting, fresh_of}
use Rattle.modem_steps.specs.Slots.{deliver_all_of, slot_of_said_of, slot_asking_of}
use Rattle.modem_steps.specs.Machine.{plain_event_of}
use Rattle.modem_receive.specs.Events.{reject_event_of, rejected, pended_if, invalidated}
use Rattle.modem_steps.specs.Clock.{clocked}
use Rattle.modem_receive.specs.Receive.{is_known_of, params_wide, widths_fit_of, said_known_of, fields_in, received}
use Rattle.modem_limits.specs.Limits.{timer_fits_of, authorization_fits_of, key_zero_of, pair_held_fits_of, tek_zero_of, modem_fits_of}
use Rattle.modem_calls.proofs.AskedLaws.{takeable}
use Rattle.modem_limits.proofs.LimitsLaws.{by_four, SlotIn, InLimits, limits_of, fits_by}
use Rattle.modem_receive.proofs.ReceiveLaws.{by_received}
use Rattle.modem_calls.proofs.SentFits.{read_fit, read_listed, read_heard}
use Rattle.modem_calls.proofs.KeptSteps.{Kept, kept_either, deliver_kept, plain_deliver_kept, all_kept, plain_kept, clocked_kept}
use Rattle.modem_calls.proofs.KeptReply.{replied_kept}

-- ---- a Reject and an Authorization Invalid
pub rejected_kept : (m : Modem) (error : ℕ) → InLimits m → Kept (rejected m error)
unfolding rejected
rejected_kept m error l =
    let w = plain_event_of (starting m) (reject_event_of error) in
    let after : Kept w = plain_kept (starting m) (reject_event_of error) l in
    kept_either (eqb m.authorization.state D) (deliver_all_of 4 1 w) w (all_kept 4 1 w (omega arith) refl refl after) after

pub invalidated_kept : (m : Modem) (identifier : ℕ) → InLimits m → Kept (invalidated m identifier)
unfolding invalidated
invalidated_kept m identifier l =
    kept_either (eqb (authorization_next_of 7 m.authorization.state) blank) (starting m) (pended_if (ltb 0 identifier && ltb i 4) w i) l
    (go (ltb 0 identifier) (ltb i 4) refl (plain_kept (starting m) 7 l))
  where
    i : ℕ
    i = slot_asking_of m identifier

    w : Progress
    w = plain_event_of (starting m) 7

    go : (b c : Bool) → ltb i 4 ≡ c → Kept w → Kept (pended_if (b && c) w i)
    go true true e k = plain_deliver_kept w i 3 (ltb-true i 4 e) refl refl k
    go true false e k = k
    go false c e k = k

-- ---- a Key Reply
pub pair_made : (w clock : ℕ) (older newer : Params) → PairFit older newer → params_wide w older ≡ true → params_wide w newer ≡ true
    → pair_held_fits_of true w clock (pair_of clock older newer) ≡ true
unfolding pair_held_fits_of pair_fits_of key_fits_of follows
pair_made w clock older newer f wide-o wide-n =
    let o = both (eqb older.tek.width w) (eqb older.vector.width w) wide-o in
    let n = both (eqb newer.tek.width w) (eqb newer.vector.width w) wide-n in
    let e₁ = rw (eqb-true older.tek.width w o.0) at f.older.tek_past in
    let e₂ = rw (eqb-true older.vector.width w o.1) at f.older.vector_past in
    let e₃ = rw (eqb-true newer.tek.width w n.0) at f.newer.tek_past in
    let e₄ = rw (eqb-true newer.vector.width w n.1) at f.newer.vector_past in
    let sooner : older.life < newer.life = ltb-true older.life newer.life f.sooner in
    simp (
      le-leb older.number.0 15 f.older.number,
      le-leb newer.number.0 15 f.newer.number,
      e₁,
      e₂,
      e₃,
      e₄,
      f.next,
      lt-ltb (clock + older.life) (clock + newer.life) (omega arith),
      le-leb (clock + newer.life) (clock + 604800) (omega (arith, f.newer.high)),
    )

-- the widths that question 9 asks
widths_asked : (m : Modem) (f : Fields) → f.code ≡ 8 → is_known_of m f.said ≡ true → widths_fit_of m f ≡ true
    → (params_wide (width_of (slot_at m (slot_of_said_of m f.said)).suite) f.older ≡ true) × (params_wide (width_of (slot_at m (slot_of_said_of m f.said)).suite) f.newer ≡ true)
unfolding widths_fit_of
widths_asked m f eight known e =
    let w = width_of (slot_at m (slot_of_said_of m f.said)).suite in
    both (params_wide w f.older) (params_wide w f.newer) (rw (eq-eqb f.code 8 eight, known) at e)

-- ---- a message that is taken
module _ (m : Modem) (s : List ℕ) (d : message_answer AtModem s ≡ Done) where
  reply_pair : (fields_in s).code ≡ 8 → PairFit (fields_in s).older (fields_in s).newer
  unfolding taken_of fields_of head_fits_of is_required_of required_of among
  reply_pair eight =
      let head : head_fits_of (code_of s) (identifier_of s) ≡ true = rw eight refl in
      pair_ok (fields_in s) (replicate (taken_of s).key.len 0) (read_fit s d head) (rw eight refl)

  pub received_kept : widths_fit_of m (fields_in s) ≡ true → said_known_of m (fields_in s) ≡ true → InLimits m → Kept (received m (fields_in s))
  received_kept wide known l =
      let f = fields_in s in
      let t = takeable m s d known in
      let i = slot_of_said_of m f.said in
      by_received m f Kept
      (λ e. replied_kept m f (read_heard s d).ak t.life_small (read_listed s d) l)
      (λ e. rejected_kept m f.error l)
      (λ e.
      let slot : i < 4 = t.known (λ q. omega (arith, q)) (λ q. omega (arith, q)) (λ q. omega (arith, q)) in
      let widths = widths_asked m f e (lt-ltb i 4 slot) wide in
      deliver_kept (starting m) i 8 f.older f.newer slot refl t.newer_small
      (λ q. pair_made (width_of (slot_at m i).suite) m.clock f.older f.newer (reply_pair e) widths.0 widths.1) l)
      (λ e. plain_deliver_kept (starting m) i 9 (t.known (λ q. omega (arith, q)) (λ q. omega (arith, q)) (λ q. omega (arith, q))) refl refl l)
      (λ e. invalidated_kept m f.identifier l)
      (λ n₅ n₆ n₁₀. plain_deliver_kept (starting m) i 5 (t.known n₅ n₆ n₁₀) refl refl l)

-- ---- a fresh modem
pub fresh_fits : (settings : Settings) (address said : ℕ) → settings_fit_of settings ≡ true → address < 281474976710656 → said ≤ 16383 → modem_fits_of (fresh_of settings address said) ≡ true
unfolding authorization_fits_of tek_zero_of timer_fits_of pair_held_fits_of key_zero_of all_zero
fresh_fits settings address said fit below small =
    fits_by (fresh_of settings address said)
    (record {
      settings = fit;
      clock = omega arith;
      address = lt-ltb address 281474976710656 below;
      said = small;
      authorization = refl;
      used = omega arith;
      slots = by_four (SlotIn settings.waits 0 0 (fresh_of settings address said).teks) refl refl refl refl;
      apart = λ i j less h. absurd (omega arith);
    })

-- ---- the steps keep question 1
module _ (m : Modem) (e : modem_fits_of m ≡ true) where
  pub plain_fits : (event : ℕ) → modem_fits_of (plain_event_of (starting m) event).modem ≡ true
  plain_fits event = fits_by (plain_event_of (starting m) event).modem (plain_kept (starting m) event (limits_of m e))

  pub clocked_fits : (t : ℕ) → m.clock ≤ t → t ≤ 1000000000000 → modem_fits_of (clocked m t).modem ≡ true
  clocked_fits t later small = fits_by (clocked m t).modem (clocked_kept m t later small (limits_of m e))

  pub received_fits : (s : List ℕ) → message_answer AtModem s ≡ Done → widths_fit_of m (fields_in s) ≡ true → said_known_of m (fields_in s) ≡ true → modem_fits_of (received m (fields_in s)).modem ≡ true
  received_fits s d wide known = fits_by (received m (fields_in s)).modem (received_kept m s d wide known (limits_of m e))

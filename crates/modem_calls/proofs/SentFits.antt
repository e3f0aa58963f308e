-- The messages of every call of a modem within its limits can be written: at most six, in at most 216 octets.
use mathlib.Core.Path.{◌≡◌, refl}
use mathlib.Core.Bool.{Bool, true, false, cond}
use mathlib.Core.List.{List, []}
use Prim.Native.Nat.{ℕ, ◌≤◌, ◌<◌}
use native.Mathlib.Omega.{arith}
use lib.Dec.{leb, eqb}
use lib.ListN.{length, get_or, replicate, length-replicate}
use borrow.Author.Tests.{leb-true, lt-ltb}
use Rattle.questions.specs.Answer.{Done}
use Rattle.questions.proofs.TestLaws.{both}
use Rattle.message_rules.specs.declared.fields.Descriptor.{Descriptor}
use Rattle.message_rules.specs.declared.fields.Fields.{Fields}
use Rattle.message_rules.specs.declared.fields.Receiver.TheVariants.{Modem as AtModem}
use Rattle.message_rules.specs.Attributes.{Item, items, value_at}
use Rattle.message_rules.specs.Ranges.{required_of, among, is_required_of, fits}
use Rattle.message_rules.specs.Messages.{code_of, identifier_of, body_of, message_answer}
use Rattle.message_rules.specs.Fields.{no_descriptor_of, carried, carried_count, fields_of}
use Rattle.message_rules.specs.Reading.{taken_of}
use Rattle.message_rules.specs.Limits.{head_fits_of, place_fit_of}
use Rattle.message_rules.proofs.HoldsLaws.{never}
use Rattle.message_rules.proofs.CodesLaws.{by_code}
use Rattle.message_rules.proofs.FieldsFit.{Fit, fit, descriptors_ok}
use Rattle.message_rules.proofs.PartsWritten.{DescriptorFit, descriptor-fit}
use Rattle.message_rules.proofs.DescriptorsWritten.{DescriptorsFit}
use Rattle.message_rules.proofs.TakenLaws.{Taken, taken, first_fits}
use Rattle.message_rules.proofs.ReadFits.{read_fits}
use Rattle.modem_steps.specs.declared.state.Modem.{Modem}
use Rattle.modem_steps.specs.State.{starting}
use Rattle.modem_steps.specs.Slots.{slot_of_said_of}
use Rattle.modem_reply.specs.Listed.{descriptor_at_of}
use Rattle.modem_steps.specs.Machine.{plain_event_of}
use Rattle.modem_steps.specs.Clock.{clocked}
use Rattle.modem_receive.specs.Receive.{said_known_of, fields_in, received}
use Rattle.modem_limits.specs.Limits.{modem_fits_of}
use Rattle.modem_calls.specs.Messages.{out_octets}
use Rattle.modem_calls.proofs.AskedLaws.{takeable}
use Rattle.modem_limits.proofs.LimitsLaws.{limits_of, slot_said, auth_in, by_four}
use Rattle.modem_calls.specs.Messages.{OutFits}
use Rattle.modem_calls.proofs.OutLaws.{out_short}
use Rattle.modem_calls.proofs.SentLaws.{Sayable, plain_sends, clocked_sends, Heard, received_sends}

pub fits_sayable : (m : Modem) → modem_fits_of m ≡ true → Sayable m
fits_sayable m e =
    let l = limits_of m e in
    record {
      own = l.said;
      slots = λ i h. slot_said m.settings.waits m.clock m.used m.teks i (l.slots i h);
      ak = (auth_in m.clock m.authorization l.authorization).ak;
    }

-- ---- an accepted message's fields
ak_most : (c i : ℕ) (l : List Item) → Taken c l → (fields_of c i l).ak.0 ≤ 15
unfolding fields_of carried fits
ak_most c i l t = go (is_required_of c 10) refl
  where
    go : (b : Bool) → is_required_of c 10 ≡ b → get_or (cond b (value_at 10 0 l) []) 0 0 ≤ 15
    go true h =
        let v = value_at 10 0 l in
        leb-true (get_or v 0 0) 15 (both (eqb (length v) 1) (leb (get_or v 0 0) 15) (first_fits c l t 10 refl refl h)).1
    go false h = omega arith

-- a Reply's descriptors
pub descriptor-at : (n : ℕ) (ds : List Descriptor) → DescriptorsFit n ds → (i : ℕ) → i < n → DescriptorFit (get_or ds i no_descriptor_of)
unfolding place_fit_of
descriptor-at n ds f i h =
    by_four (λ j. j < n → DescriptorFit (get_or ds j no_descriptor_of)) (at 0 f.at_0) (at 1 f.at_1) (at 2 f.at_2) (at 3 f.at_3) i (omega (arith, f.high)) h
  where
    at : (j : ℕ) → place_fit_of n j ds ≡ true → j < n → DescriptorFit (get_or ds j no_descriptor_of)
    at j e less = descriptor-fit (get_or ds j no_descriptor_of) (rw (lt-ltb j n less) at e)

replies_head : (c i : ℕ) → 4 ≤ c → c ≤ 12 → is_required_of c 23 ≡ true → head_fits_of c i ≡ true
unfolding is_required_of required_of among head_fits_of
replies_head c i = by_code (λ n. is_required_of n 23 ≡ true → head_fits_of n i ≡ true) never (λ h. refl) never never never never never never never c

-- what the limits of fields to be written say of an accepted message's fields
pub read_fit : (s : List ℕ) → message_answer AtModem s ≡ Done → head_fits_of (code_of s) (identifier_of s) ≡ true → Fit (fields_in s) (replicate (taken_of s).key.len 0)
read_fit s d h =
    let r = read_fits AtModem s d h in
    fit (fields_in s) (replicate (taken_of s).key.len 0) r.0 (rw (length-replicate {A = ℕ} (taken_of s).key.len 0) r.1)

pub read_listed : (s : List ℕ) → message_answer AtModem s ≡ Done → (i : ℕ) → i < (fields_in s).count → DescriptorFit (descriptor_at_of (fields_in s) i)
unfolding taken_of fields_of carried_count
read_listed s d i h = go (is_required_of (code_of s) 23) refl
  where
    go : (b : Bool) → is_required_of (code_of s) 23 ≡ b → DescriptorFit (descriptor_at_of (fields_in s) i)
    go true e =
        let t = taken AtModem s d in
        let f = read_fit s d (replies_head (code_of s) (identifier_of s) t.low t.high e) in
        descriptor-at (fields_in s).count (fields_in s).descriptors (descriptors_ok (fields_in s) (replicate (taken_of s).key.len 0) f e) i h
    go false e = let none : i < 0 = rw e at h in absurd (omega arith)

pub read_heard : (s : List ℕ) → message_answer AtModem s ≡ Done → Heard (fields_in s)
unfolding taken_of
read_heard s d =
    record {
      ak = ak_most (code_of s) (identifier_of s) (items (body_of s)) (taken AtModem s d);
      listed = λ i h. (read_listed s d i h).said;
    }

-- ---- at most six messages, each of which can be written
module _ (m : Modem) (e : modem_fits_of m ≡ true) where
  -- any event but a Reply: established (1), reauth (8), and the others
  pub plain_out : (event : ℕ) → OutFits (plain_event_of (starting m) event).out 2
  plain_out event = (plain_sends m event (fits_sayable m e)).out

  pub clocked_out : (t : ℕ) → OutFits (clocked m t).out 6
  clocked_out t = (clocked_sends m t (fits_sayable m e)).out

  pub received_out : (f : Fields) → Heard f
      → ((f.code ≡ 5 → ⊥) → (f.code ≡ 6 → ⊥) → (f.code ≡ 10 → ⊥) → slot_of_said_of m f.said < 4)
      → OutFits (received m f).out 6
  received_out f h known = (received_sends m f (fits_sayable m e) h known).out

  pub message_out : (s : List ℕ) → message_answer AtModem s ≡ Done → said_known_of m (fields_in s) ≡ true → OutFits (received m (fields_in s)).out 6
  message_out s d k = received_out (fields_in s) (read_heard s d) (takeable m s d k).known

  -- in at most 216 octets, under every message key
  pub plain_short : (key : List ℕ) (event : ℕ) → length (out_octets key (plain_event_of (starting m) event).out) ≤ 216
  plain_short key event = omega (arith, out_short key (plain_event_of (starting m) event).out 2 (plain_out event))

  pub clocked_short : (key : List ℕ) (t : ℕ) → length (out_octets key (clocked m t).out) ≤ 216
  clocked_short key t = omega (arith, out_short key (clocked m t).out 6 (clocked_out t))

  pub message_short : (key s : List ℕ) → message_answer AtModem s ≡ Done → said_known_of m (fields_in s) ≡ true
      → length (out_octets key (received m (fields_in s)).out) ≤ 216
  message_short key s d k = omega (arith, out_short key (received m (fields_in s)).out 6 (message_out s d k))

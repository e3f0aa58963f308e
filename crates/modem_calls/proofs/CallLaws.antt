-- Each call, refused or done: it keeps the modem within its limits, writes at most 216 octets, and changes nothing where it is refused.
use mathlib.Core.Path.{◌≡◌, refl}
use mathlib.Core.Bool.{true, ◌&&◌}
use mathlib.Core.List.{List, [], ◌++◌}
use Prim.Native.Nat.{ℕ, ◌≤◌}
use native.Mathlib.Omega.{arith}
use lib.Dec.{ltb, leb}
use lib.ListN.{length}
use borrow.Author.Tests.{ltb-true, leb-true, eqb-true}
use Rattle.questions.specs.Answer.{Answer, Done, Refused}
use Rattle.questions.specs.declared.refusal.Refusal.{Refusal}
use Rattle.questions.specs.declared.settings.Settings.{Settings}
use Rattle.questions.specs.Questions.{Question, first_no}
use Rattle.questions.specs.Settings.{settings_fit_of}
use Rattle.questions.proofs.TestLaws.{both}
use Rattle.message_rules.specs.declared.fields.Receiver.TheVariants.{Modem as AtModem}
use Rattle.message_rules.specs.Messages.{question9, message_answer}
use Rattle.questions.proofs.AnswerLaws.{done_met}
use Rattle.message_rules.proofs.MessageAnswers.{answer_done}
use Rattle.modem_steps.specs.declared.state.Modem.{Modem}
use Rattle.modem_steps.specs.declared.state.Progress.{Progress}
use Rattle.modem_steps.specs.State.{starting, fresh_of}
use Rattle.modem_steps.specs.Machine.{plain_event_of}
use Rattle.modem_steps.specs.Clock.{clocked}
use Rattle.modem_receive.specs.Receive.{widths_fit_of, said_known_of, identifier_fits_of, digest_holds_of as question12, fields_in, receive_questions, received}
use Rattle.modem_limits.specs.Limits.{modem_fits_of}
use Rattle.message_rules.specs.Reading.{taken_of}
use Rattle.message_digest.specs.Digest.{message_key_fits_of, digest_holds_of}
use Rattle.modem_calls.specs.Messages.{out_octets, no_key_of}
use Rattle.modem_calls.specs.Calls.{Result, result_of, first_questions, new_questions, new_for, new_value, event_of, established_of, reauth_of, clock_fits_of, clock_questions, clock_answer_of, clock_of, receive_answer_of, receive_of}
use Rattle.modem_calls.proofs.SentFits.{plain_short, clocked_short, message_short}
use Rattle.modem_calls.proofs.KeptMessages.{fresh_fits, plain_fits, clocked_fits, received_fits}

-- ---- what the questions say, all met
pub clock_asked : (m : Modem) (t : ℕ) (write : List ℕ) (lent : ℕ) → clock_answer_of m t write lent ≡ Done
    → (modem_fits_of m ≡ true) × (m.clock ≤ t) × (t ≤ 1000000000000) × (216 ≤ lent) × (length write ≡ 20)
unfolding clock_fits_of
clock_asked m t write lent e =
    let h = done_met (first_questions m (message_key_fits_of write) lent ++ clock_questions m t) e in
    let c = both (leb m.clock t) (leb t 1000000000000) h.1.1.0 in
    let k = both (message_key_fits_of write) (leb 216 lent) h.1.0 in
    (h.0, leb-true m.clock t c.0, leb-true t 1000000000000 c.1, leb-true 216 lent k.1, eqb-true (length write) 20 k.0)

pub event_asked : (m : Modem) (lent : ℕ) → first_no (first_questions m true lent) ≡ Done → (modem_fits_of m ≡ true) × (216 ≤ lent)
event_asked m lent e = let h = done_met (first_questions m true lent) e in (h.0, leb-true 216 lent h.1.0)

-- questions 1 to 12 of a message, with the key of what is read
pub record Asked (m : Modem) (s key : List ℕ) : Type 0 where
  pub fits : modem_fits_of m ≡ true
  pub read : message_answer AtModem s ≡ Done
  pub wide : widths_fit_of m (fields_in s) ≡ true
  pub known : said_known_of m (fields_in s) ≡ true
  pub answers : identifier_fits_of m (fields_in s) ≡ true
  pub holds : question12 (digest_holds_of key (taken_of s).digest s) (fields_in s) ≡ true

abbrev all_questions : Modem → List ℕ → List ℕ → List ℕ → ℕ → List Question
all_questions m s read write lent =
    first_questions m (message_key_fits_of read && message_key_fits_of write) lent ++ receive_questions m s (digest_holds_of read (taken_of s).digest s)

pub receive_asked : (m : Modem) (s read write : List ℕ) (lent : ℕ) → receive_answer_of m s read write lent ≡ Done → Asked m s read
unfolding receive_questions
receive_asked m s read write lent e =
    let h = done_met (all_questions m s read write lent) e in
    let q = h.1.1 in
    let n = both (question9 s) (widths_fit_of m (fields_in s)) q.1.1.1.0 in
    record {
      fits = h.0;
      read = (answer_done AtModem s).1 (q.0, q.1.0, q.1.1.0, n.0);
      wide = n.1;
      known = q.1.1.1.1.0;
      answers = q.1.1.1.1.1.0;
      holds = q.1.1.1.1.1.1.0;
    }

-- question 2: both keys, and the lent slice
pub receive_lengths : (m : Modem) (s read write : List ℕ) (lent : ℕ) → receive_answer_of m s read write lent ≡ Done
    → (length read ≡ 20) × (length write ≡ 20) × (216 ≤ lent)
receive_lengths m s read write lent e =
    let h = done_met (all_questions m s read write lent) e in
    let q = both (message_key_fits_of read && message_key_fits_of write) (leb 216 lent) h.1.0 in
    let k = both (message_key_fits_of read) (message_key_fits_of write) q.0 in
    (eqb-true (length read) 20 k.0, eqb-true (length write) 20 k.1, leb-true 216 lent q.1)

-- ---- a result keeps the limits and is short, where what is done does and is
pub record Good (r : Result) : Type 0 where
  pub fits : modem_fits_of r.called.modem ≡ true
  pub short : length r.written ≤ 216
  pub counted : r.called.count ≡ length r.written

good_result : (a : Answer) (m : Modem) (key : List ℕ) (w : Progress) → modem_fits_of m ≡ true → (a ≡ Done → (modem_fits_of w.modem ≡ true) × (length (out_octets key w.out) ≤ 216)) → Good (result_of a m key w)
good_result Done m key w old new = let n = new refl in record { fits = n.0; short = n.1; counted = refl }
good_result (Refused r) m key w old new = record { fits = old; short = omega arith; counted = refl }

module _ (m : Modem) (lent : ℕ) (e : modem_fits_of m ≡ true) where
  event_good : (event : ℕ) → Good (event_of event m lent)
  unfolding event_of
  event_good event = good_result (first_no (first_questions m true lent)) m no_key_of (plain_event_of (starting m) event) e (λ d. (plain_fits m e event, plain_short m e no_key_of event))

  pub established_good : Good (established_of m lent)
  established_good = event_good 1

  pub reauth_good : Good (reauth_of m lent)
  reauth_good = event_good 8

  pub clock_good : (t : ℕ) (write : List ℕ) → Good (clock_of m t write lent)
  unfolding clock_of
  clock_good t write =
      good_result (clock_answer_of m t write lent) m write (clocked m t) e
      (λ d. let a = clock_asked m t write lent d in (clocked_fits m e t a.1 a.2, clocked_short m e write t))

  pub receive_good : (s read write : List ℕ) → Good (receive_of m s read write lent)
  unfolding receive_of
  receive_good s read write =
      good_result (receive_answer_of m s read write lent) m write (received m (fields_in s)) e
      (λ d.
      let a = receive_asked m s read write lent d in
      (received_fits m e s a.read a.wide a.known, message_short m e write s a.read a.known))

-- a new modem that is not refused is within its limits
new_met : (settings : Settings) (address said : ℕ) → first_no (new_questions settings address said) ≡ Done → modem_fits_of (fresh_of settings address said) ≡ true
unfolding new_questions
new_met settings address said e =
    let h = done_met (new_questions settings address said) e in
    let q = both (settings_fit_of settings && ltb address 281474976710656) (leb said 16383) h.0 in
    let p = both (settings_fit_of settings) (ltb address 281474976710656) q.0 in
    fresh_fits settings address said p.0 (ltb-true address 281474976710656 p.1) (leb-true said 16383 q.1)

pub new_fits : (settings : Settings) (address said : ℕ) → (new_value settings address said).answer ≡ Done → modem_fits_of (new_value settings address said).modem ≡ true
unfolding new_value
new_fits settings address said = go (first_no (new_questions settings address said)) refl
  where
    go : (a : Answer) → first_no (new_questions settings address said) ≡ a → (new_for a settings address said).answer ≡ Done → modem_fits_of (new_for a settings address said).modem ≡ true
    go Done e d = new_met settings address said e
    go (Refused r) e d = let z : ◌≡◌ {A = ℕ} 0 1 = cc in absurd (omega arith)

-- ---- a refused call changes and writes nothing
pub record Unchanged (m : Modem) (r : Result) : Type 0 where
  pub modem : r.called.modem ≡ m
  pub count : r.called.count ≡ 0
  pub written : r.written ≡ []

pub refused_result : (a : Answer) (m : Modem) (key : List ℕ) (w : Progress) (r : Refusal) → (result_of a m key w).called.answer ≡ Refused r
    → Unchanged m (result_of a m key w)
refused_result Done m key w r e = let z : ◌≡◌ {A = ℕ} 0 1 = cc in absurd (omega arith)
refused_result (Refused q) m key w r e = record { modem = refl; count = refl; written = refl }

module _ (m : Modem) (lent : ℕ) (r : Refusal) where
  event_refused : (event : ℕ) → (event_of event m lent).called.answer ≡ Refused r → Unchanged m (event_of event m lent)
  unfolding event_of
  event_refused event e = refused_result (first_no (first_questions m true lent)) m no_key_of (plain_event_of (starting m) event) r e

  pub established_refused : (established_of m lent).called.answer ≡ Refused r → Unchanged m (established_of m lent)
  established_refused e = event_refused 1 e

  pub reauth_refused : (reauth_of m lent).called.answer ≡ Refused r → Unchanged m (reauth_of m lent)
  reauth_refused e = event_refused 8 e

  pub clock_refused : (t : ℕ) (write : List ℕ) → (clock_of m t write lent).called.answer ≡ Refused r → Unchanged m (clock_of m t write lent)
  unfolding clock_of
  clock_refused t write e = refused_result (clock_answer_of m t write lent) m write (clocked m t) r e

  pub receive_refused : (s read write : List ℕ) → (receive_of m s read write lent).called.answer ≡ Refused r
      → Unchanged m (receive_of m s read write lent)
  unfolding receive_of
  receive_refused s read write e = refused_result (receive_answer_of m s read write lent) m write (received m (fields_in s)) r e

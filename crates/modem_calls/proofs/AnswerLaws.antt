-- What a call gives, by the first question that is not met and where all are met.
use mathlib.Core.Path.{◌≡◌, refl, sym, ◌∙◌, ap, subst}
use mathlib.Core.Bool.{Bool, true, false, cond, ◌&&◌}
use mathlib.Core.List.{List, [], ◌∷◌, ◌++◌}
use Prim.Native.Nat.{ℕ}
use native.Mathlib.Omega.{arith}
use lib.Dec.{leb}
use Rattle.questions.specs.Answer.{Answer, Done, Refused}
use Rattle.questions.specs.declared.refusal.Refusal.{Refusal}
use Rattle.questions.specs.declared.refusal.Refusal.TheVariants.{CutMessage, CodeNotReceived, BadAttribute, WrongAttributes, UnknownSaid, WrongIdentifier, DigestFails}
use Rattle.key_traffic.specs.Octets.{overlay}
use Rattle.questions.specs.Questions.{Question, first_no, answer_then}
use Rattle.questions.proofs.AnswerLaws.{first_append}
use Rattle.message_rules.specs.declared.fields.Receiver.{Receiver}
use Rattle.message_rules.specs.declared.fields.Receiver.TheVariants.{Modem as AtModem}
use Rattle.message_rules.specs.declared.fields.Reading.{Reading}
use Rattle.message_rules.specs.Messages.{is_whole, question7, question8, question9, message_questions, message_answer}
use Rattle.message_rules.specs.declared.fields.Fields.{Fields}
use Rattle.message_rules.specs.Reading.{taken_of, read_of}
use Rattle.message_digest.specs.Digest.{message_key_fits_of, digest_holds_of}
use Rattle.message_rules.proofs.MessageAnswers.{read_answer}
use Rattle.modem_steps.specs.declared.state.Modem.{Modem}
use Rattle.modem_steps.specs.declared.state.Progress.{Progress}
use Rattle.modem_steps.specs.declared.state.Called.{Called}
use Rattle.modem_receive.specs.Receive.{widths_fit_of, said_known_of, identifier_fits_of, digest_holds_of as question12, receive_questions, fields_in}
use Rattle.modem_limits.specs.Limits.{modem_fits_of}
use Rattle.modem_steps.specs.State.{starting}
use Rattle.modem_steps.specs.Machine.{plain_event_of}
use Rattle.modem_calls.specs.Messages.{out_octets, OutFits}
use Rattle.modem_calls.specs.Calls.{result_of, refused_call, done_call, first_questions, first_answer_of, receive_answer_of}

-- ---- what is given for an answer
module _ (m : Modem) (lent : List ℕ) (answer : Answer) (key : List ℕ) (w : Progress) where
  pub refused_by : (r : Refusal) (c : Called) → answer ≡ Refused r → c ≡ refused_call r m → (c ≡ (result_of answer m key w).called) × (lent ≡ overlay lent (result_of answer m key w).written)
  refused_by r c e ec = rw e (ec, refl)

  pub done_by : (v : Progress) (c : Called) (after : List ℕ) → answer ≡ Done → v ≡ w → c ≡ done_call key v → after ≡ overlay lent (out_octets key v.out)
      → (c ≡ (result_of answer m key w).called) × (after ≡ overlay lent (result_of answer m key w).written)
  done_by v c after e ev ec ea = rw e (ec ∙ ap (done_call key) ev, ea ∙ ap (λ (x : Progress). overlay lent (out_octets key x.out)) ev)

-- ---- questions 1 and 2, before any others
pub first_met : (m : Modem) (keys : Bool) (lent : ℕ) (qs : List Question) → modem_fits_of m ≡ true → (keys && leb 216 lent) ≡ true
    → first_no (first_questions m keys lent ++ qs) ≡ first_no qs
first_met m keys lent qs e long = simp (e, long)

-- ---- a reading
pub read_digest : (e : Receiver) (s : List ℕ) → message_answer e s ≡ Done → (read_of e s).digest ≡ (taken_of s).digest
unfolding read_of
read_digest e s d = rw d

pub read_fields : (e : Receiver) (s : List ℕ) → message_answer e s ≡ Done → (read_of e s).fields ≡ fields_in s
unfolding read_of
read_fields e s d = rw d

-- ---- questions 6 to 12: those of the reader come first
abbrev four : Bool → Bool → Bool → Bool → List Question → List Question
four a b c d rest =
    record { refusal = CutMessage; met = a }
    ∷ record { refusal = CodeNotReceived; met = b }
    ∷ record { refusal = BadAttribute; met = c }
    ∷ record { refusal = WrongAttributes; met = d }
    ∷ rest

reader_no : (a b c d w : Bool) (rest : List Question) (r : Refusal) → first_no (four a b c d []) ≡ Refused r → first_no (four a b c (d && w) rest) ≡ Refused r
reader_no false b c d w rest r e = e
reader_no true false c d w rest r e = e
reader_no true true false d w rest r e = e
reader_no true true true false w rest r e = e
reader_no true true true true w rest r e = let z : ◌≡◌ {A = ℕ} 0 1 = cc in absurd (omega arith)

reader_yes : (a b c d w : Bool) (rest : List Question) → first_no (four a b c d []) ≡ Done → first_no (four a b c (d && w) rest) ≡ cond w (first_no rest) (Refused WrongAttributes)
reader_yes false b c d w rest e = let z : ◌≡◌ {A = ℕ} 0 1 = cc in absurd (omega arith)
reader_yes true false c d w rest e = let z : ◌≡◌ {A = ℕ} 0 1 = cc in absurd (omega arith)
reader_yes true true false d w rest e = let z : ◌≡◌ {A = ℕ} 0 1 = cc in absurd (omega arith)
reader_yes true true true false w rest e = let z : ◌≡◌ {A = ℕ} 0 1 = cc in absurd (omega arith)
reader_yes true true true true w rest e = refl

-- those that are left of a message's fields `f`, where `digest` says whether its digest holds
abbrev pub fields_questions : Modem → Fields → Bool → List Question
fields_questions m f digest =
    record { refusal = WrongAttributes; met = widths_fit_of m f }
    ∷ record { refusal = UnknownSaid; met = said_known_of m f }
    ∷ record { refusal = WrongIdentifier; met = identifier_fits_of m f }
    ∷ record { refusal = DigestFails; met = question12 digest f }
    ∷ []

module _ (m : Modem) (s : List ℕ) (digest : Bool) where
  abbrev later : List Question
  later =
      record { refusal = UnknownSaid; met = said_known_of m (fields_in s) }
      ∷ record { refusal = WrongIdentifier; met = identifier_fits_of m (fields_in s) }
      ∷ record { refusal = DigestFails; met = question12 digest (fields_in s) }
      ∷ []

  pub message_no : (r : Refusal) → message_answer AtModem s ≡ Refused r → first_no (receive_questions m s digest) ≡ Refused r
  unfolding message_answer message_questions receive_questions
  message_no r e = reader_no (is_whole s) (question7 AtModem s) (question8 s) (question9 s) (widths_fit_of m (fields_in s)) later r e

  message_yes : message_answer AtModem s ≡ Done → first_no (receive_questions m s digest) ≡ first_no (fields_questions m (fields_in s) digest)
  unfolding message_answer message_questions receive_questions
  message_yes taken = reader_yes (is_whole s) (question7 AtModem s) (question8 s) (question9 s) (widths_fit_of m (fields_in s)) later taken

  pub all_met : message_answer AtModem s ≡ Done → widths_fit_of m (fields_in s) ≡ true → said_known_of m (fields_in s) ≡ true → identifier_fits_of m (fields_in s) ≡ true
      → question12 digest (fields_in s) ≡ true → first_no (receive_questions m s digest) ≡ Done
  all_met taken wide known i e = message_yes taken ∙ simp (wide, known, i, e)

-- ---- the work of a call by another name for it
pub event_there : (m : Modem) (event : ℕ) (v w : Progress) → v ≡ starting m → w ≡ plain_event_of v event → w ≡ plain_event_of (starting m) event
event_there m event v w ev e = e ∙ ap (λ (x : Progress). plain_event_of x event) ev

pub out_there : (w v : Progress) → w ≡ v → OutFits v.out 6 → OutFits w.out 6
out_there w v e fits = subst (λ (x : Progress). OutFits x.out 6) (sym e) fits

-- ---- a question that is gone on after is met
pub asked_yes : (met : Bool) (r : Refusal) → Done ≡ cond met Done (Refused r) → met ≡ true
asked_yes true r e = refl
asked_yes false r e = let z : ◌≡◌ {A = ℕ} 0 1 = cc in absurd (omega arith)

-- ---- four questions in turn
in_turn : (a b c d : Bool) → cond a (cond b (cond c (cond d Done (Refused DigestFails)) (Refused WrongIdentifier)) (Refused UnknownSaid)) (Refused WrongAttributes)
    ≡ answer_then (cond a Done (Refused WrongAttributes))
    (answer_then (cond b Done (Refused UnknownSaid)) (answer_then (cond c Done (Refused WrongIdentifier)) (cond d Done (Refused DigestFails))))
in_turn false b c d = refl
in_turn true false c d = refl
in_turn true true false d = refl
in_turn true true true d = refl

-- ---- the questions of a message by what the reader gave: `r` is its reading
module _ (m : Modem) (s read write : List ℕ) (lent : ℕ) (r : Reading) (e : r ≡ read_of AtModem s) where
  reading_answer : r.answer ≡ message_answer AtModem s
  reading_answer = ap (λ (x : Reading). x.answer) e ∙ read_answer AtModem s

  pub reading_fields : r.answer ≡ Done → r.fields ≡ fields_in s
  reading_fields d = ap (λ (x : Reading). x.fields) e ∙ read_fields AtModem s (sym reading_answer ∙ d)

  reading_digest : r.answer ≡ Done → r.digest ≡ (taken_of s).digest
  reading_digest d = ap (λ (x : Reading). x.digest) e ∙ read_digest AtModem s (sym reading_answer ∙ d)

  asked_later : first_no (receive_questions m s (digest_holds_of read (taken_of s).digest s))
      ≡ answer_then r.answer (first_no (fields_questions m r.fields (digest_holds_of read r.digest s)))
  asked_later = go r.answer refl
    where
      go : (a : Answer) → r.answer ≡ a → first_no (receive_questions m s (digest_holds_of read (taken_of s).digest s))
          ≡ answer_then r.answer (first_no (fields_questions m r.fields (digest_holds_of read r.digest s)))
      go Done d =
          message_yes m s (digest_holds_of read (taken_of s).digest s) (sym reading_answer ∙ d)
          ∙ rw (d, reading_fields d, reading_digest d) refl
      go (Refused x) d = message_no m s (digest_holds_of read (taken_of s).digest s) x (sym reading_answer ∙ d) ∙ rw d refl

  -- all of them in turn, as the code asks them; it goes on after each that is met
  module _ (reads writes wide known answers right holds : Bool) (er : reads ≡ message_key_fits_of read) (ew : writes ≡ message_key_fits_of write)
      (e₁ : wide ≡ widths_fit_of m r.fields) (e₂ : known ≡ said_known_of m r.fields) (e₃ : answers ≡ identifier_fits_of m r.fields)
      (e₄ : right ≡ digest_holds_of read r.digest s) (e₅ : holds ≡ question12 right r.fields) where
    pub asked_in_turn : receive_answer_of m s read write lent
        ≡ answer_then (first_answer_of m (reads && writes) lent)
        (answer_then r.answer
        (answer_then (cond wide Done (Refused WrongAttributes))
        (answer_then (cond known Done (Refused UnknownSaid))
        (answer_then (cond answers Done (Refused WrongIdentifier)) (cond holds Done (Refused DigestFails))))))
    asked_in_turn =
        first_append (first_questions m (message_key_fits_of read && message_key_fits_of write) lent) (receive_questions m s (digest_holds_of read (taken_of s).digest s))
        ∙ rw (asked_later, er, ew, e₅, e₄, e₃, e₂, e₁)
        (ap (λ (a : Answer). answer_then (first_answer_of m (message_key_fits_of read && message_key_fits_of write) lent) (answer_then r.answer a))
        (in_turn (widths_fit_of m r.fields) (said_known_of m r.fields) (identifier_fits_of m r.fields) (question12 (digest_holds_of read r.digest s) r.fields)))

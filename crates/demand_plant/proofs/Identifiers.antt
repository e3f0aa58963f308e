-- M-101 of document 02 over any list of demand 3's steps: no request carries 0, and an Authorization Invalid with the Identifier of a waiting Key Request
-- is taken as its answer.
use mathlib.Core.Path.{◌≡◌, refl, sym, ◌∙◌, ap, subst}
use mathlib.Core.Bool.{Bool, true, false, ◌&&◌, cond}
use mathlib.Core.List.{List, ◌++◌}
use Prim.Native.Nat.{ℕ, ◌≤◌, ◌<◌}
use native.Mathlib.Omega.{arith}
use lib.Dec.{ltb, leb, eqb}
use borrow.Author.Tests.{ltb-true, lt-ltb, eq-eqb, ne_eqb}
use Rattle.questions.specs.declared.settings.Settings.{Settings}
use Rattle.questions.specs.Answer.{Answer, Done, Refused}
use Rattle.questions.specs.declared.refusal.Refusal.TheVariants.{OutOfLimits, WrongLength, CutMessage, CodeNotReceived, BadAttribute, WrongAttributes, UnknownSaid, DigestFails}
use Rattle.questions.specs.Questions.{first_no}
use Rattle.questions.specs.Refusal.{answer_number_of}
use Rattle.questions.specs.Settings.{settings_fit_of}
use Rattle.questions.proofs.AnswerLaws.{number_done}
use Rattle.questions.proofs.TestLaws.{both}
use Rattle.key_traffic.specs.Addresses.{address_fits_of}
use Rattle.key_association.specs.declared.record.Assoc.{Assoc}
use Rattle.message_rules.specs.declared.fields.Receiver.TheVariants.{Modem as AtModem}
use Rattle.message_rules.specs.Fields.{fields_of}
use Rattle.message_rules.specs.Messages.{identifier_of, is_whole, question7, question8, question9}
use Rattle.message_rules.specs.Reading.{taken_of}
use Rattle.message_digest.specs.Digest.{message_key_fits_of, digest_holds_of}
use Rattle.modem_transitions.proofs.IdentifierLaws.{Solicited}
use Rattle.modem_steps.specs.declared.state.Modem.{Modem}
use Rattle.modem_steps.specs.declared.state.Progress.{Progress}
use Rattle.modem_steps.specs.State.{slot_at}
use Rattle.modem_steps.specs.Slots.{is_waiting_of, asking, slot_asking_of}
use Rattle.modem_limits.specs.Limits.{modem_fits_of}
use Rattle.modem_receive.specs.Events.{invalidated}
use Rattle.modem_receive.specs.Receive.{widths_fit_of, said_known_of, identifier_fits_of, digest_holds_of as question12, receive_questions, received, fields_in}
use Rattle.modem_calls.specs.Messages.{out_octets}
use Rattle.modem_calls.specs.Calls.{result_of, receive_answer_of, receive_of, first_questions}
use Rattle.modem_calls.proofs.ModemRows.{answer_of}
use Rattle.modem_calls.proofs.PairLaws.{first_found}
use Rattle.demand_plant.specs.World.{World, fresh, Step, down, step_of}
use Rattle.demand_plant.specs.Run.{world_after}
use Rattle.demand_plant.specs.Identifiers.{AnswersSlot, pended, Pends, TakenAsAnswer, Identified}
use Rattle.demand_plant.proofs.Under.{authorized}
use Rattle.demand_plant.proofs.NumberedSteps.{step_numbered}
use Rattle.demand_plant.proofs.UnderRun.{Stands, run_stands, fresh_stands, waits_under}
use Rattle.demand_plant.proofs.Answered.{before_first, first_found_by, waiting_used, invalid_pends, work_reauthorizes, work_rests}

-- ---- a call by its answer
result_done : (a : Answer) (m : Modem) (key : List ℕ) (v : Progress) → a ≡ Done
    → ((result_of a m key v).called.modem ≡ v.modem) × ((result_of a m key v).written ≡ out_octets key v.out)
result_done Done m key v e = (refl, refl)
result_done (Refused r) m key v e = let z : ◌≡◌ {A = ℕ} 0 1 = cc in absurd (omega arith)

-- where question 11 is met, the answer is not 11
met_11 : (m : Modem) (s read write : List ℕ) (lent : ℕ) → identifier_fits_of m (fields_in s) ≡ true → answer_number_of (receive_answer_of m s read write lent) ≡ 11 → ⊥
unfolding receive_questions
met_11 m s read write lent met =
    rw met
    (go (modem_fits_of m) ((message_key_fits_of read && message_key_fits_of write) && leb 216 lent) (is_whole s) (question7 AtModem s) (question8 s) (question9 s && widths_fit_of m (fields_in s)) (said_known_of m (fields_in s))
    (question12 (digest_holds_of read (taken_of s).digest s) (fields_in s)))
  where
    go : (a b c d e f g h : Bool)
        → answer_number_of (cond a (cond b (cond c (cond d (cond e (cond f (cond g (cond h Done (Refused DigestFails)) (Refused UnknownSaid)) (Refused WrongAttributes)) (Refused BadAttribute)) (Refused CodeNotReceived)) (Refused CutMessage)) (Refused WrongLength)) (Refused OutOfLimits)) ≡ 11 → ⊥
    go false b c d e f g h q = omega (arith, q)
    go true false c d e f g h q = omega (arith, q)
    go true true false d e f g h q = omega (arith, q)
    go true true true false e f g h q = omega (arith, q)
    go true true true true false f g h q = omega (arith, q)
    go true true true true true false g h q = omega (arith, q)
    go true true true true true true false h q = omega (arith, q)
    go true true true true true true true false q = omega (arith, q)
    go true true true true true true true true q = omega (arith, q)

-- ---- one message, with the Identifier of slot i's waiting request
module _ (w : World) (v : Stands w) (i : ℕ) (read write octets : List ℕ) (lent : ℕ) (a : AnswersSlot w octets i) where
  abbrev m : Modem
  m = w.modem

  abbrev identifier : ℕ
  identifier = identifier_of octets

  abbrev j : ℕ
  j = slot_asking_of m identifier

  solicited : Solicited identifier
  solicited = subst Solicited (sym a.identifier) (v.waits.teks i a.waits)

  asks : asking identifier (slot_at m i) ≡ true
  asks = rw (a.waits, eq-eqb (slot_at m i).identifier identifier (sym a.identifier))

  there : j < 4
  there = first_found_by (asking identifier) m i a.slot (waiting_used m v.fits i a.slot a.waits) asks

  found : (j < m.used) × (asking identifier (slot_at m j) ≡ true)
  found = first_found (asking identifier) m there

  under : authorized m.authorization.state ≡ true
  under = waits_under w v i a.slot a.waits

  fits_11 : identifier_fits_of m (fields_in octets) ≡ true
  unfolding identifier_fits_of taken_of fields_of
  fits_11 = rw (a.invalid, ne_eqb identifier 0 solicited, lt-ltb j 4 there)

  invalid_work : received m (fields_in octets) ≡ pended w j
  unfolding received taken_of fields_of
  invalid_work = rw a.invalid (invalid_pends m identifier solicited there under)

  accepted : (step_of w (down read write octets lent)).given.number ≡ 0 → receive_answer_of m octets read write lent ≡ Done
  unfolding receive_of
  accepted e = number_done (receive_answer_of m octets read write lent) (ap answer_number_of (sym (answer_of (receive_answer_of m octets read write lent) m write (received m (fields_in octets)))) ∙ e)

  pends : (step_of w (down read write octets lent)).given.number ≡ 0 → Pends w read write octets lent j
  unfolding receive_of
  pends e =
      let r = result_done (receive_answer_of m octets read write lent) m write (received m (fields_in octets)) (accepted e) in
      let modem = r.0 ∙ ap (λ (p : Progress). p.modem) invalid_work in
      record {
        modem = modem;
        written = r.1 ∙ ap (λ (p : Progress). out_octets write p.out) invalid_work;
        reauthorizes = ap (λ (n : Modem). n.authorization.state) modem ∙ work_reauthorizes m identifier solicited there under;
        rests = ap (λ (n : Modem). is_waiting_of (slot_at n j)) modem ∙ work_rests m identifier solicited there (both (is_waiting_of (slot_at m j)) (eqb (slot_at m j).identifier identifier) found.1).0;
      }

  taken_as_answer : TakenAsAnswer w read write octets lent j
  unfolding receive_of
  taken_as_answer =
      record {
        solicited = solicited;
        not_11 = λ e. met_11 m octets read write lent fits_11 (ap answer_number_of (sym (answer_of (receive_answer_of m octets read write lent) m write (received m (fields_in octets)))) ∙ e);
        asks = found.1;
        first = λ k less. before_first (asking identifier) m k less (omega (arith, less, there)) (omega (arith, less, found.0));
        pends = pends;
      }

-- ---- over any list
module _ (settings : Settings) (address said : ℕ) (records : List Assoc) (fits : settings_fit_of settings ≡ true) (address-fits : address_fits_of address ≡ true) (said_fits : said ≤ 16383)
    (ss : List Step) where
  stands : Stands (world_after (fresh settings address said records) ss)
  stands = run_stands (fresh settings address said records) ss (fresh_stands settings address said records fits (ltb-true address 281474976710656 address-fits) said_fits)

  pub identified : Identified settings address said records ss
  identified =
      let w = world_after (fresh settings address said records) ss in
      record {
        numbered = λ s. (step_numbered w s stands.fits stands.waits).written;
        answered = λ i read write octets lent a. taken_as_answer w stands i read write octets lent a;
      }

-- The rows on the modem over its calls hold.
use mathlib.Core.Path.{◌≡◌, refl, sym, ◌∙◌, ap, subst}
use mathlib.Core.Logic.{◌⊎◌, inl, inr}
use mathlib.Core.Bool.{Bool, true, false, ◌&&◌, ◌||◌, not}
use mathlib.Core.List.{List, [], ◌++◌}
use Prim.Native.Nat.{ℕ, ◌≤◌, ◌<◌}
use native.Mathlib.Omega.{arith}
use lib.Dec.{leb, eqb}
use lib.ListN.{length, set, take}
use lib.Seq.{get_or-set_same}
use borrow.Author.Tests.{ltb-true, eq-eqb, le-leb}
use Rattle.questions.specs.Answer.{Answer, Done, Refused}
use Rattle.questions.specs.declared.refusal.Refusal.{Refusal}
use Rattle.questions.specs.declared.refusal.Refusal.TheVariants.{CutMessage, BadAttribute, WrongIdentifier}
use Rattle.questions.specs.Questions.{first_no}
use Rattle.key_traffic.specs.Suites.{width_of}
use Rattle.message_rules.specs.declared.fields.Fields.{Fields}
use Rattle.message_rules.specs.declared.fields.Params.{Params}
use Rattle.message_rules.specs.declared.fields.Reading.{Reading}
use Rattle.message_rules.specs.declared.fields.Receiver.TheVariants.{Modem as AtModem}
use Rattle.message_rules.specs.Attributes.{items_with, items, values, count_of, value_at, last_from_of, all_of}
use Rattle.message_rules.specs.Fields.{fields_of, no_params_of}
use Rattle.message_rules.specs.Messages.{code_of, identifier_of, length_of, body_of, is_whole, receives, has_required, insides_have_required, compounds_have_required, digest_last, saids_differ_of, pair_in_order, complete, message_questions, message_answer}
use Rattle.message_rules.specs.Ranges.{required_of, among, is_required_of, fits, compound, good, sound}
use Rattle.message_rules.specs.Reading.{taken_of, read_of}
use Rattle.message_rules.specs.Vectors.{reply_i6_of, fields_i6}
use Rattle.message_rules.proofs.MessageAnswers.{read_answer}
use Rattle.message_rules.proofs.Vectors.{read-I6, read_103, read_107}
use Rattle.modem_transitions.specs.Transitions.{B, C, D, E, F, next_in, authorization_transitions, tek_transitions}
use Rattle.modem_tek.specs.TekParts.{no_pair_of, nothing}
use Rattle.modem_tek.specs.declared.tek.Tek.{Tek}
use Rattle.modem_tek.specs.declared.tek.TekStep.{TekStep}
use Rattle.modem_tek.specs.Tek.{pair_after_of, tek_moved, tek_step_of}
use Rattle.modem_authorization.specs.Authorization.{auth_moved, auth_step_of}
use Rattle.modem_steps.specs.declared.state.Modem.{Modem}
use Rattle.modem_steps.specs.declared.state.Progress.{Progress}
use Rattle.modem_steps.specs.State.{slot_at, starting, with_message_of}
use Rattle.modem_steps.specs.Machine.{auth_stepped_of, deliver_auth_of}
use Rattle.modem_steps.specs.Slots.{deliver, deliver_reply_of, stepped_at_of, slot_of_said_of, tek_context_of}
use Rattle.modem_receive.specs.Events.{invalidated}
use Rattle.modem_limits.specs.Limits.{modem_fits_of}
use Rattle.modem_receive.specs.Receive.{is_known_of, widths_fit_of, said_known_of, identifier_fits_of, digest_holds_of as question12, receive_questions, received, fields_in}
use Rattle.modem_calls.specs.Calls.{Result, result_of, first_questions, receive_answer_of, receive_of}
use Rattle.modem_calls.specs.Messages.{request_octets, requests_octets, out_octets}
use Rattle.modem_calls.proofs.AnswerLaws.{first_met, message_no, all_met}
use Rattle.modem_calls.proofs.ModemRows.{operational_refuses}
use Rattle.modem_receive.proofs.ReceiveLaws.{widths_other, received_8, received_11}
use Rattle.digest_sha1.specs.Words.{f, K, quarter}
use Rattle.digest_sha1.specs.Sha1.{schedule, padding, octets8, zeros, rounds, round_at, sha1, finish, all_blocks, blocks, block, compress, added}
use Rattle.digest_hmac.specs.Hmac.{hmac, used_key, inner, outer, key_block_of, holds, same}
use Rattle.message_digest.specs.Digest.{message_key_fits_of, digest_holds_of}
use Rattle.message_rules.specs.declared.fields.Place.{Place}
use Rattle.demand_edges.proofs.Steps.{in_f, in_f_keys, in_f_sends}
use Rattle.demand_edges.specs.Received.{invalid_octets, refused_with, pair_i6, key_i6, Received}

holds_true : (f : Fields) → question12 true f ≡ true
unfolding question12
holds_true f = go (eqb f.code 8 || eqb f.code 9 || eqb f.code 11)
  where
    go : (b : Bool) → (not b || true) ≡ true
    go true = refl
    go false = refl

-- The digest of I.6 holds under its own message key: computed
i6_holds : digest_holds_of key_i6 (record { start = 88; len = 20 }) reply_i6_of ≡ true
unfolding digest_holds_of holds same hmac used_key inner outer key_block_of schedule padding octets8 zeros rounds round_at sha1 finish all_blocks blocks block compress added f K quarter
i6_holds = refl

-- ---- a call by its answer
refused_by : (a : Answer) (m : Modem) (key : List ℕ) (w : Progress) (r : Refusal) → a ≡ Refused r → result_of a m key w ≡ refused_with r m
refused_by a m key w r e = ap (λ (b : Answer). result_of b m key w) e

by_answer : (a : Answer) (m : Modem) (key : List ℕ) (w : Progress) (r : Refusal) → (result_of a m key w).called.answer ≡ Refused r → result_of a m key w ≡ refused_with r m
by_answer Done m key w r e = let z : ◌≡◌ {A = ℕ} 0 1 = cc in absurd (omega arith)
by_answer (Refused q) m key w r e = ap (λ (b : Answer). result_of b m key w) e

module _ (m : Modem) (read write : List ℕ) (lent : ℕ) (fit : modem_fits_of m ≡ true) (read_wide : length read ≡ 20) (write_wide : length write ≡ 20) (room : 216 ≤ lent) where
  keys-fit : (message_key_fits_of read && message_key_fits_of write && leb 216 lent) ≡ true
  keys-fit = rw (eq-eqb (length read) 20 read_wide, eq-eqb (length write) 20 write_wide, le-leb 216 lent room)

  -- whether a message's digest holds
  abbrev right : List ℕ → Bool
  right s = digest_holds_of read (taken_of s).digest s

  abbrev asks : List ℕ → Answer
  asks s = receive_answer_of m s read write lent

  asked_refused : (s : List ℕ) (r : Refusal) → message_answer AtModem s ≡ Refused r → receive_of m s read write lent ≡ refused_with r m
  unfolding receive_of
  asked_refused s r e =
      refused_by (asks s) m write (received m (fields_in s)) r (first_met m (message_key_fits_of read && message_key_fits_of write) lent (receive_questions m s (right s)) fit keys-fit ∙ message_no m s (right s) r e)

  -- a message that is taken: what it does
  taken_by : (s : List ℕ) (w : Progress) → message_answer AtModem s ≡ Done → widths_fit_of m (fields_in s) ≡ true → said_known_of m (fields_in s) ≡ true
      → identifier_fits_of m (fields_in s) ≡ true → question12 (right s) (fields_in s) ≡ true → received m (fields_in s) ≡ w → receive_of m s read write lent ≡ result_of Done m write w
  unfolding receive_of
  taken_by s w d wide known number holds does =
      ap (λ (a : Answer). result_of a m write (received m (fields_in s))) (first_met m (message_key_fits_of read && message_key_fits_of write) lent (receive_questions m s (right s)) fit keys-fit ∙ all_met m s (right s) d wide known number holds)
      ∙ ap (result_of Done m write) does

  -- ---- C + Invalid
  invalid_read : (error : ℕ) → message_answer AtModem (invalid_octets error) ≡ Done
  unfolding message_answer message_questions receives is_whole body_of length_of sound good compound fits complete has_required compounds_have_required insides_have_required digest_last saids_differ_of pair_in_order is_required_of among required_of all_of last_from_of value_at count_of values items items_with
  invalid_read error = refl

  abbrev ten : ℕ → Fields
  ten error = fields_in (invalid_octets error)

  ten_wide : (error : ℕ) → widths_fit_of m (ten error) ≡ true
  unfolding widths_fit_of taken_of fields_of
  ten_wide error = refl

  ten_known : (error : ℕ) → said_known_of m (ten error) ≡ true
  unfolding said_known_of taken_of fields_of
  ten_known error = refl

  ten_number : (error : ℕ) → identifier_fits_of m (ten error) ≡ true
  unfolding identifier_fits_of taken_of fields_of
  ten_number error = refl

  ten_holds : (error : ℕ) (digest : Bool) → question12 digest (ten error) ≡ true
  unfolding question12 taken_of fields_of
  ten_holds error digest = refl

  ten_does : (error : ℕ) → received m (ten error) ≡ invalidated m 0
  unfolding received taken_of fields_of
  ten_does error = refl

  invalidated_state : m.authorization.state ≡ C → (invalidated m 0).modem.authorization.state ≡ D
  unfolding invalidated deliver_auth_of auth_stepped_of auth_step_of auth_moved next_in authorization_transitions
  invalidated_state c = simp c

  in_c : (error : ℕ) → m.authorization.state ≡ C
      → ((receive_of m (invalid_octets error) read write lent).called.answer ≡ Done) × ((receive_of m (invalid_octets error) read write lent).called.modem.authorization.state ≡ D)
  in_c error c =
      let is = taken_by (invalid_octets error) (invalidated m 0) (invalid_read error) (ten_wide error) (ten_known error) (ten_number error) (ten_holds error (right (invalid_octets error))) (ten_does error) in
      (ap (λ (r : Result). r.called.answer) is, ap (λ (r : Result). r.called.modem.authorization.state) is ∙ invalidated_state c)

  -- ---- Operational + Key Reply
  in_d : (s : List ℕ) → message_answer AtModem s ≡ Done → (fields_in s).code ≡ 8 → widths_fit_of m (fields_in s) ≡ true
      → is_known_of m (fields_in s).said ≡ true → (slot_at m (slot_of_said_of m (fields_in s).said)).state ≡ D
      → receive_of m s read write lent ≡ refused_with WrongIdentifier m
  unfolding receive_of
  in_d s d eight wide known state =
      by_answer (asks s) m write (received m (fields_in s)) WrongIdentifier (operational_refuses m s read write lent fit (read_wide, write_wide) room d eight wide known state)

  -- ---- a machine's step, at its slot
  module _ (slots : length m.teks ≡ 4) where
    stepped : (i : ℕ) (s : TekStep) → i < 4 → slot_at (stepped_at_of (starting m) i s).modem i ≡ s.machine
    unfolding stepped_at_of
    stepped i s less = get_or-set_same m.teks i s.machine _ (omega (arith, less, slots))

    -- the work of a machine's event: its slot after it, and what goes out
    slot_after : (i event : ℕ) (older newer : Params) → i < 4
        → slot_at (deliver_reply_of (starting m) i event older newer).modem i ≡ (tek_step_of (slot_at m i) event (tek_context_of m) older newer).machine
    unfolding deliver_reply_of
    slot_after i event older newer less = stepped i (tek_step_of (slot_at m i) event (tek_context_of m) older newer) less

    nothing_out : (i event : ℕ) (older newer : Params) → (tek_step_of (slot_at m i) event (tek_context_of m) older newer).sends ≡ nothing
        → out_octets write (deliver_reply_of (starting m) i event older newer).out ≡ []
    unfolding deliver_reply_of stepped_at_of with_message_of out_octets requests_octets request_octets
    nothing_out i event older newer e = rw e

    -- ---- F + TEK Invalid
    module _ (s : List ℕ) (d : message_answer AtModem s ≡ Done) (holds : digest_holds_of read (taken_of s).digest s ≡ true) (eleven : code_of s ≡ 11) (none : identifier_of s ≡ 0)
        (known : is_known_of m (fields_in s).said ≡ true) (state : (slot_at m (slot_of_said_of m (fields_in s).said)).state ≡ F) where
      abbrev i : ℕ
      i = slot_of_said_of m (fields_in s).said

      code_is : (fields_in s).code ≡ 11
      unfolding taken_of fields_of
      code_is = eleven

      identifier_is : (fields_in s).identifier ≡ 0
      unfolding taken_of fields_of
      identifier_is = none

      wide : widths_fit_of m (fields_in s) ≡ true
      wide = sym (widths_other m (fields_in s) (λ e. omega (arith, e, code_is)))

      is_known : said_known_of m (fields_in s) ≡ true
      unfolding said_known_of
      is_known = simp (code_is, known)

      number : identifier_fits_of m (fields_in s) ≡ true
      unfolding identifier_fits_of
      number = simp (code_is, identifier_is)

      does : received m (fields_in s) ≡ deliver (starting m) i 5
      does =
          sym (received_11 m (fields_in s) (λ e. omega (arith, e, code_is)) (λ e. omega (arith, e, code_is)) (λ e. omega (arith, e, code_is)) (λ e. omega (arith, e, code_is)) (λ e. omega (arith, e, code_is)))

      invalid_f : ((receive_of m s read write lent).called.answer ≡ Done)
          × ((slot_at (receive_of m s read write lent).called.modem (slot_of_said_of m (fields_in s).said)).state ≡ C)
          × ((slot_at (receive_of m s read write lent).called.modem (slot_of_said_of m (fields_in s).said)).pair ≡ no_pair_of)
          × ((receive_of m s read write lent).written ≡ [])
      invalid_f =
          let is = taken_by s (deliver (starting m) i 5) d wide is_known number (subst (λ (b : Bool). question12 b (fields_in s) ≡ true) (sym holds) (holds_true (fields_in s))) does in
          let less : i < 4 = ltb-true i 4 known in
          let after = ap (λ (r : Result). slot_at r.called.modem i) is ∙ slot_after i 5 no_params_of no_params_of less in (
            ap (λ (r : Result). r.called.answer) is,
            ap (λ (t : Tek). t.state) after ∙ in_f (slot_at m i) (tek_context_of m) no_params_of no_params_of state,
            ap (λ (t : Tek). t.pair) after ∙ in_f_keys (slot_at m i) (tek_context_of m) no_params_of no_params_of state,
            ap (λ (r : Result). r.written) is ∙ nothing_out i 5 no_params_of no_params_of (in_f_sends (slot_at m i) (tek_context_of m) no_params_of no_params_of state),
          )

    -- ---- the Key Reply of I.6
    i6_read : message_answer AtModem reply_i6_of ≡ Done
    i6_read = sym (read_answer AtModem reply_i6_of) ∙ ap (λ (r : Reading). r.answer) read-I6

    i6_fields : fields_in reply_i6_of ≡ fields_i6
    unfolding read_of
    i6_fields = let taken : read_of AtModem reply_i6_of ≡ taken_of reply_i6_of = rw i6_read in ap (λ (r : Reading). r.fields) (sym taken ∙ read-I6)

    i6_place : (taken_of reply_i6_of).digest ≡ record { start = 88; len = 20 }
    unfolding read_of
    i6_place = let taken : read_of AtModem reply_i6_of ≡ taken_of reply_i6_of = rw i6_read in ap (λ (r : Reading). r.digest) (sym taken ∙ read-I6)

    module _ (own : read ≡ key_i6) (known : is_known_of m 8800 ≡ true) (suite : (slot_at m (slot_of_said_of m 8800)).suite ≡ 256) (waits : (slot_at m (slot_of_said_of m 8800)).identifier ≡ 115)
        (state : ((slot_at m (slot_of_said_of m 8800)).state ≡ B) ⊎ ((slot_at m (slot_of_said_of m 8800)).state ≡ E)) where
      abbrev place : ℕ
      place = slot_of_said_of m 8800

      i6_wide : widths_fit_of m fields_i6 ≡ true
      unfolding widths_fit_of width_of
      i6_wide = simp (known, suite)

      i6_known : said_known_of m fields_i6 ≡ true
      unfolding said_known_of
      i6_known = simp known

      waiting : ((slot_at m (slot_of_said_of m 8800)).state ≡ B) ⊎ ((slot_at m (slot_of_said_of m 8800)).state ≡ E) → identifier_fits_of m fields_i6 ≡ true
      unfolding identifier_fits_of
      waiting (inl b) = simp (b, waits)
      waiting (inr e) = simp (e, waits)

      i6_does : received m fields_i6 ≡ deliver_reply_of (starting m) place 8 fields_i6.older fields_i6.newer
      i6_does = sym (received_8 m fields_i6 (λ e. omega (arith, e)) (λ e. omega (arith, e)) refl)

      operational : ((slot_at m (slot_of_said_of m 8800)).state ≡ B) ⊎ ((slot_at m (slot_of_said_of m 8800)).state ≡ E)
          → ((tek_step_of (slot_at m place) 8 (tek_context_of m) fields_i6.older fields_i6.newer).machine.state ≡ D)
          × ((tek_step_of (slot_at m place) 8 (tek_context_of m) fields_i6.older fields_i6.newer).machine.pair ≡ pair_i6 m.clock)
      unfolding tek_step_of tek_moved pair_after_of next_in tek_transitions
      operational (inl b) = (simp b, simp b)
      operational (inr e) = (simp e, simp e)

      i6_taken : ((receive_of m reply_i6_of read write lent).called.answer ≡ Done)
          × ((slot_at (receive_of m reply_i6_of read write lent).called.modem (slot_of_said_of m 8800)).state ≡ D)
          × ((slot_at (receive_of m reply_i6_of read write lent).called.modem (slot_of_said_of m 8800)).pair ≡ pair_i6 m.clock)
      i6_taken =
          let by : (P : Fields → Type 0) → P fields_i6 → P (fields_in reply_i6_of) = λ P p. subst P (sym i6_fields) p in
          let w = deliver_reply_of (starting m) place 8 fields_i6.older fields_i6.newer in
          let holds : right reply_i6_of ≡ true = ap (λ (k : List ℕ). digest_holds_of k (taken_of reply_i6_of).digest reply_i6_of) own ∙ ap (λ (p : Place). digest_holds_of key_i6 p reply_i6_of) i6_place ∙ i6_holds in
          let is =
          taken_by reply_i6_of w i6_read (by (λ f. widths_fit_of m f ≡ true) i6_wide) (by (λ f. said_known_of m f ≡ true) i6_known)
          (by (λ f. identifier_fits_of m f ≡ true) (waiting state)) (subst (λ (b : Bool). question12 b (fields_in reply_i6_of) ≡ true) (sym holds) (holds_true (fields_in reply_i6_of))) (by (λ f. received m f ≡ w) i6_does) in
          let after = ap (λ (r : Result). slot_at r.called.modem place) is ∙ slot_after place 8 fields_i6.older fields_i6.newer (ltb-true place 4 known) in
          let o = operational state in
          (ap (λ (r : Result). r.called.answer) is, ap (λ (t : Tek). t.state) after ∙ o.0, ap (λ (t : Tek). t.pair) after ∙ o.1)

    answer_103 : message_answer AtModem (set reply_i6_of 3 103) ≡ Refused BadAttribute
    answer_103 = sym (read_answer AtModem (set reply_i6_of 3 103)) ∙ ap (λ (r : Reading). r.answer) read_103

    answer_107 : message_answer AtModem (take 107 reply_i6_of) ≡ Refused CutMessage
    answer_107 = sym (read_answer AtModem (take 107 reply_i6_of)) ∙ ap (λ (r : Reading). r.answer) read_107

pub received_rows : (m : Modem) (read write : List ℕ) (lent : ℕ) → modem_fits_of m ≡ true → length m.teks ≡ 4 → length read ≡ 20 → length write ≡ 20 → 216 ≤ lent → Received m read write lent
received_rows m read write lent fit slots r w room =
    record {
      invalid_in_c = in_c m read write lent fit r w room;
      reply_in_d = in_d m read write lent fit r w room;
      invalid_in_f = λ s d holds eleven none known state. invalid_f m read write lent fit r w room slots s d holds eleven none known state;
      reply_i6 = λ own known suite waits state. i6_taken m read write lent fit r w room slots own known suite waits state;
      reply_length_103 = asked_refused m read write lent fit r w room (set reply_i6_of 3 103) BadAttribute (answer_103 m read write lent fit r w room slots);
      reply_107_octets = asked_refused m read write lent fit r w room (take 107 reply_i6_of) CutMessage (answer_107 m read write lent fit r w room slots);
    }

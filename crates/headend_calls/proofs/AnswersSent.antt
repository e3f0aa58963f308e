-- What `receive` writes where it takes a message: the octets of the answer of document 01 ("Head-end answers"), at most 342 and at most
-- 140 of a Key Reply, and the modem's reader reads its fields back.
use mathlib.Core.Path.{◌≡◌, refl, ap}
use mathlib.Core.Bool.{Bool, true, false, cond, not}
use mathlib.Core.List.{List, [], ◌++◌}
use Prim.Native.Nat.{ℕ, ◌≤◌}
use native.Mathlib.Omega.{arith}
use lib.Dec.{eqb}
use lib.ListN.{length}
use borrow.Author.Tests.{le-leb, ne_eqb, eqb-true}
use Rattle.questions.specs.Answer.{Answer, Done, Refused}
use Rattle.key_association.specs.declared.record.Assoc.{Assoc}
use Rattle.key_association.specs.declared.search.Found.{Found}
use Rattle.message_rules.specs.declared.fields.Fields.{Fields}
use Rattle.message_rules.specs.declared.fields.Receiver.TheVariants.{HeadEnd as AtHeadEnd, Modem}
use Rattle.message_rules.specs.Fields.{no_fields}
use Rattle.message_rules.specs.Reading.{read_of}
use Rattle.message_rules.specs.Ranges.{is_required_of}
use Rattle.message_digest.specs.Digest.{message_key_fits_of, digest_holds_of, signed_of}
use Rattle.message_digest.proofs.SignedLaws.{signed_length}
use Rattle.questions.proofs.TestLaws.{both}
use Rattle.key_records.specs.Records.{first_of, lookup_of}
use Rattle.headend_state.specs.declared.state.HeadEnd.{HeadEnd}
use Rattle.headend_state.specs.declared.state.Called.{Called}
use Rattle.headend_state.specs.declared.entries.Known.{Known}
use Rattle.headend_answers.specs.declared.answers.Reaction.{Reaction}
use Rattle.headend_limits.specs.Search.{out_of_limits_of, of_request_of}
use Rattle.headend_state.specs.Entries.{known_of}
use Rattle.headend_answers.specs.AnswerFields.{reject, reply_answer_of, key_reply_of}
use Rattle.headend_answers.specs.Answers.{keys_after, key_answer_of, request_answer, request_reaction_of, reaction_of}
use Rattle.headend_steps.specs.Receive.{answer_octets, receive_answer_of, called_for, reaction_to, receive_called_of, keys_fit_of}
use Rattle.headend_steps.proofs.AskedLaws.{ReceiveAsked, receive_asked}
use Rattle.headend_steps.proofs.AnswerFields.{key_reply_most}
use Rattle.headend_steps.proofs.AnswerFits.{by_key_answer, reaction_writable}
use Rattle.headend_steps.proofs.AnswersRead.{reaction_holds, ShapedRecord, read_back_of, written_is, called_is, reaction_read}
use Rattle.headend_calls.specs.Calls.{receive_of, receive_octets, request_holds_of}

-- ---- only a Key Reply has the code 8
abbrev ShortReply : List ℕ → List ℕ → Fields → Type 0
ShortReply auth write f = f.code ≡ 8 → length (answer_octets f auth write) ≤ 140

module _ (auth write : List ℕ) where
  key_reply_short : (clock : ℕ) (a : Assoc) (f : Fields) → ShortReply auth write (key_reply_of clock a f)
  unfolding answer_octets
  key_reply_short clock a f eight = omega (arith, key_reply_most clock a f auth, signed_length (key_reply_of clock a f) auth write (omega arith) (omega arith))

  module _ (h : HeadEnd) (k : Known) (a : Assoc) (digest : Bool) (f : Fields) where
    request_short : ShortReply auth write (request_answer h k f.identifier)
    unfolding request_answer
    request_short = go k.is_listed (eqb k.entry.allowed 0)
      where
        go : (x y : Bool)
            → ShortReply auth write (cond (not x) (reject f.identifier 1) (cond y (reject f.identifier 6) (reply_answer_of h.clock f.identifier k.entry.listing (keys_after h k.entry))))
        go false y eight = absurd (omega (arith, eight))
        go true true eight = absurd (omega (arith, eight))
        go true false eight = absurd (omega (arith, eight))

    key_short : ShortReply auth write (key_answer_of h.clock k a digest f)
    key_short =
        by_key_answer h.clock k a digest f (ShortReply auth write)
        (λ eight. absurd (omega (arith, eight)))
        (λ e₁ eight. absurd (omega (arith, eight)))
        (λ e₁ e₂ eight. absurd (omega (arith, eight)))
        (λ e₁ e₂ eight. absurd (omega (arith, eight)))
        (λ w. key_reply_short h.clock a f)

    reaction_short : ShortReply auth write (reaction_of h k a digest f).answer
    unfolding reaction_of
    reaction_short = go (eqb f.code 4) (eqb f.code 7)
      where
        go : (x y : Bool)
            → ShortReply auth write (cond x (request_reaction_of h k f.identifier) (cond y (record { state = h; answer = key_answer_of h.clock k a digest f }) (record { state = h; answer = no_fields }))).answer
        go true y = request_short
        go false true = key_short
        go false false = λ eight. absurd (omega (arith, eight))

-- ---- what is read of a message, the record found for its SAID, and the answer with the state after it
abbrev pub request : List ℕ → Fields
request s = (read_of AtHeadEnd s).fields

abbrev pub found : List Assoc → List ℕ → Found
found xs s = lookup_of (of_request_of (read_of AtHeadEnd s)) xs

abbrev pub reaction : HeadEnd → List Assoc → ℕ → List ℕ → List ℕ → Reaction
reaction h xs address read s = reaction_to h (found xs s) address (request_holds_of read s) (read_of AtHeadEnd s)

-- ---- the call
module _ (h : HeadEnd) (xs : List Assoc) (address : ℕ) (read write s auth : List ℕ) (lent : ℕ) where
  abbrev sent : Reaction
  sent = reaction h xs address read s

  -- The message is taken
  abbrev pub Takes : Type 0
  Takes = (receive_of h xs address read write s auth lent).answer ≡ Done

  -- The call writes the octets of the fields f, and `after` is the head-end after it
  pub record Sent (f : Fields) (after : HeadEnd) : Type 0 where
    pub octets : receive_octets h xs address read write s auth lent ≡ answer_octets f auth write
    pub count : (receive_of h xs address read write s auth lent).count ≡ length (answer_octets f auth write)
    pub state : (receive_of h xs address read write s auth lent).state ≡ after

  abbrev answers : ℕ → Answer
  answers room = receive_answer_of h (first_of (out_of_limits_of h) xs) (length xs) (found xs s) address (request_holds_of read s) (keys_fit_of read write) (read_of AtHeadEnd s) (length auth) room

  pub takes_done : Takes → receive_answer_of h (first_of (out_of_limits_of h) xs) (length xs) (found xs s) address (request_holds_of read s) (keys_fit_of read write) (read_of AtHeadEnd s) (length auth) lent ≡ Done
  unfolding receive_called_of
  takes_done done = go (answers lent) done
    where
      go : (a : Answer) → (called_for a h sent auth write).answer ≡ Done → a ≡ Done
      go Done e = refl
      go (Refused r) e = e

  -- Every question was met
  pub takes_asked : Takes → ReceiveAsked h (first_of (out_of_limits_of h) xs) (length xs) (found xs s) address (request_holds_of read s) (keys_fit_of read write) (read_of AtHeadEnd s) (length auth) lent
  takes_asked done =
      receive_asked h (first_of (out_of_limits_of h) xs) (length xs) (found xs s) address (request_holds_of read s) (keys_fit_of read write) (read_of AtHeadEnd s) (length auth) lent (takes_done done)

  -- The key of what is written has its length
  pub write_wide : Takes → length write ≡ 20
  write_wide done = eqb-true (length write) 20 (both (message_key_fits_of read) (message_key_fits_of write) (takes_asked done).keys-fit).1

  -- A message that is taken gets the answer of its case
  pub receive_done : Takes → Sent (reaction h xs address read s).answer (reaction h xs address read s).state
  receive_done done =
      let bad = first_of (out_of_limits_of h) xs in
      let is = called_is h bad (length xs) (found xs s) address (request_holds_of read s) (keys_fit_of read write) (read_of AtHeadEnd s) auth write lent (takes_done done) in
      record {
        octets = written_is h bad (length xs) (found xs s) address (request_holds_of read s) (keys_fit_of read write) (read_of AtHeadEnd s) auth write lent (takes_done done);
        count = ap (λ (c : Called). c.count) is;
        state = ap (λ (c : Called). c.state) is;
      }

  -- ---- its length
  room_enough : Takes → answers 342 ≡ Done
  unfolding receive_answer_of
  room_enough done = let e = takes_done done in rw (le-leb 342 lent (takes_asked done).answer_room) at e

  answer_most : Takes → length (answer_octets sent.answer auth write) ≤ 342
  unfolding answer_octets
  answer_most done = go (eqb sent.answer.code 0) refl
    where
      go : (b : Bool) → eqb sent.answer.code 0 ≡ b → length (cond b [] (signed_of sent.answer auth write)) ≤ 342
      go true e = omega arith
      go false e =
          (reaction_writable h (first_of (out_of_limits_of h) xs) (length xs) (found xs s) address (request_holds_of read s) (keys_fit_of read write) (read_of AtHeadEnd s) auth write 342 (room_enough done) (write_wide done)).short e

  pub sent_short : Takes → length (receive_octets h xs address read write s auth lent) ≤ 342
  sent_short done = omega (arith, answer_most done, ap length (receive_done done).octets)

  pub sent_key_reply_short : Takes → (reaction h xs address read s).answer.code ≡ 8 → length (receive_octets h xs address read write s auth lent) ≤ 140
  sent_key_reply_short done eight =
      omega (arith, reaction_short auth write h (known_of h address) (found xs s).held (request_holds_of read s) (request s) eight, ap length (receive_done done).octets)

  -- ---- where there is an answer, the modem reads its fields, whatever padding follows
  pub sent_read : Takes → ((reaction h xs address read s).answer.code ≡ 0 → ⊥) → ShapedRecord (found xs s).held → (padding : List ℕ)
      → read_of Modem (receive_octets h xs address read write s auth lent ++ padding) ≡ read_back_of (reaction h xs address read s).answer auth write
  sent_read done some shaped padding =
      reaction_read h (first_of (out_of_limits_of h) xs) (length xs) (found xs s) address (request_holds_of read s) (keys_fit_of read write) (read_of AtHeadEnd s) auth write lent (takes_done done) (write_wide done) padding shaped
      (ne_eqb sent.answer.code 0 some)

  -- and its digest, where it carries one, holds under the key that it was written with
  pub sent_holds : Takes → ((reaction h xs address read s).answer.code ≡ 0 → ⊥) → ShapedRecord (found xs s).held → (padding : List ℕ) → is_required_of (reaction h xs address read s).answer.code 11 ≡ true
      → digest_holds_of write (read_of Modem (receive_octets h xs address read write s auth lent ++ padding)).digest (receive_octets h xs address read write s auth lent ++ padding) ≡ true
  sent_holds done some shaped padding q =
      reaction_holds h (first_of (out_of_limits_of h) xs) (length xs) (found xs s) address (request_holds_of read s) (keys_fit_of read write) (read_of AtHeadEnd s) auth write lent (takes_done done) (write_wide done) padding shaped
      (ne_eqb sent.answer.code 0 some) q

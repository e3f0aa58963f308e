-- A Key Reply (document 01, "Head-end answers"): only a Key Request that meets all questions gets one, and its octets come from the
-- clock, the record of the SAID and the request's fields alone.
use mathlib.Core.Path.{◌≡◌, refl, ◌∙◌, ap}
use mathlib.Core.Bool.{Bool, true, false, cond, not}
use mathlib.Core.List.{List, []}
use Prim.Native.Nat.{ℕ, ◌<◌, ◌≤◌}
use native.Mathlib.Omega.{arith}
use lib.Dec.{eqb}
use lib.ListN.{length, get_or}
use Rattle.questions.specs.Answer.{Answer, Done, Refused}
use Rattle.key_association.specs.declared.record.Assoc.{Assoc}
use Rattle.key_association.specs.declared.search.Found.{Found}
use Rattle.message_rules.specs.declared.fields.Fields.{Fields}
use Rattle.message_rules.specs.declared.fields.Reading.{Reading}
use Rattle.message_rules.specs.declared.fields.Receiver.TheVariants.{HeadEnd as AtHeadEnd}
use Rattle.message_rules.specs.Reading.{read_of}
use Rattle.message_rules.specs.Ranges.{required_of}
use Rattle.message_rules.specs.Writing.{items_of_type, items_of_types, items_of, message, message_of}
use Rattle.message_digest.specs.Digest.{bare, signed_of}
use Rattle.key_records.specs.Records.{first_of, lookup_of}
use Rattle.headend_state.specs.declared.state.HeadEnd.{HeadEnd}
use Rattle.headend_state.specs.declared.entries.Known.{Known}
use Rattle.headend_answers.specs.declared.answers.Reaction.{Reaction}
use Rattle.headend_state.specs.Entries.{known_of}
use Rattle.headend_limits.specs.Search.{out_of_limits_of, of_request_of}
use Rattle.headend_answers.specs.AnswerFields.{reply_answer_of, key_reply_of, reject}
use Rattle.headend_answers.specs.Answers.{key_answer_of, keys_after, request_answer, reaction_of}
use Rattle.headend_steps.specs.Receive.{receive_answer_of, answer_octets, called_for, written_for, reaction_to, receive_called_of, receive_written_of, keys_fit_of}
use Rattle.headend_steps.proofs.AskedLaws.{receive_asked}
use Rattle.headend_steps.proofs.AnswerFits.{Replied, by_key_answer, reply_is, suits_reply}
use Rattle.headend_calls.specs.Calls.{receive_of, receive_octets, request_holds_of}
use Rattle.headend_calls.proofs.StateLaws.{done_apart, by_code_of}

-- ---- a Key Reply is an answer to a Key Request of which all is met
pub record IsReply (h : HeadEnd) (k : Known) (a : Assoc) (digest : Bool) (f : Fields) : Type 0 where
  pub request : eqb f.code 7 ≡ true
  pub replied : Replied h.clock k a digest f
  pub answer_is : (reaction_of h k a digest f).answer ≡ key_reply_of h.clock a f

module _ (h : HeadEnd) (k : Known) (a : Assoc) (digest : Bool) (f : Fields) where
  no-request : (request_answer h k f.identifier).code ≡ 8 → ⊥
  unfolding request_answer
  no-request = go k.is_listed (eqb k.entry.allowed 0)
    where
      go : (b c : Bool) → (cond (not b) (reject f.identifier 1) (cond c (reject f.identifier 6) (reply_answer_of h.clock f.identifier k.entry.listing (keys_after h k.entry)))).code ≡ 8 → ⊥
      go false c e = omega (arith, e)
      go true true e = omega (arith, e)
      go true false e = omega (arith, e)

  key_replied : (key_answer_of h.clock k a digest f).code ≡ 8 → Replied h.clock k a digest f
  key_replied =
      by_key_answer h.clock k a digest f (λ (g : Fields). g.code ≡ 8 → Replied h.clock k a digest f)
      (λ e. absurd (omega (arith, e)))
      (λ p e. absurd (omega (arith, e)))
      (λ p q e. absurd (omega (arith, e)))
      (λ p q e. absurd (omega (arith, e)))
      (λ w e. w)

  pub reply_only : (reaction_of h k a digest f).answer.code ≡ 8 → IsReply h k a digest f
  unfolding reaction_of
  reply_only e = go (eqb f.code 4) (eqb f.code 7) refl refl e
    where
      go : (b c : Bool) → eqb f.code 4 ≡ b → eqb f.code 7 ≡ c
          → (by_code_of h k a digest f b c).answer.code ≡ 8
          → IsReply h k a digest f
      go true c p q z = absurd (no-request z)
      go false true p q z =
          let w = key_replied z in
          record { request = q; replied = w; answer_is = rw (p, q) (reply_is h.clock k a digest f w) }
      go false false p q z = absurd (omega (arith, z))

-- ---- its octets carry no AUTH-Key
pub key_free : (clock : ℕ) (a : Assoc) (f : Fields) (key₁ key₂ write : List ℕ) → signed_of (key_reply_of clock a f) key₁ write ≡ signed_of (key_reply_of clock a f) key₂ write
unfolding signed_of bare message_of items_of items_of_types items_of_type required_of
key_free clock a f key₁ key₂ write = refl

-- ---- a message that is taken, with a Key Reply as answer
module _ (h : HeadEnd) (xs : List Assoc) (address : ℕ) (read s : List ℕ) where
  abbrev reading : Reading
  reading = read_of AtHeadEnd s

  abbrev found : Found
  found = lookup_of (of_request_of reading) xs

  abbrev reaction : Reaction
  reaction = reaction_to h found address (request_holds_of read s) reading

  -- The code of the answer, where the message is taken
  abbrev pub answer_code : ℕ
  answer_code = reaction.answer.code

  module _ (write auth : List ℕ) (lent : ℕ) where
    abbrev asked : Answer
    asked = receive_answer_of h (first_of (out_of_limits_of h) xs) (length xs) found address (request_holds_of read s) (keys_fit_of read write) reading (length auth) lent

    all_met : (receive_of h xs address read write s auth lent).answer ≡ Done → asked ≡ Done
    unfolding receive_called_of
    all_met e = go asked e
      where
        go : (a : Answer) → (called_for a h reaction auth write).answer ≡ Done → a ≡ Done
        go Done q = refl
        go (Refused r) q = done_apart r q

    -- the record is one of those in use, and the octets come from the clock, the record and the request's fields
    pub record Replies : Type 0 where
      pub place : found.at < h.used
      pub all_lent : h.used ≤ length xs
      pub written : receive_octets h xs address read write s auth lent ≡ signed_of (key_reply_of h.clock found.held reading.fields) auth write

    pub replies : (receive_of h xs address read write s auth lent).answer ≡ Done → answer_code ≡ 8 → Replies
    unfolding receive_written_of answer_octets
    replies e c =
        let done = all_met e in
        let known = known_of h address in
        let q = receive_asked h (first_of (out_of_limits_of h) xs) (length xs) found address (request_holds_of read s) (keys_fit_of read write) reading (length auth) lent done in
        let r = reply_only h known found.held (request_holds_of read s) reading.fields c in
        let in_use = suits_reply h (length xs) found known (request_holds_of read s) reading.fields q.records_lent r.request r.replied q.record-suits in
        record {
          place = in_use.0;
          all_lent = q.records_lent;
          written = ap (λ (a : Answer). written_for a reaction auth write) done ∙ ap (λ (f : Fields). answer_octets f auth write) r.answer_is;
        }

    -- what was written tells it: octets that start with 8 are those of a message that was taken, with a Key Reply as answer
    first_octet : (f : Fields) → get_or (answer_octets f auth write) 0 0 ≡ 8 → f.code ≡ 8
    unfolding answer_octets signed_of message_of message
    first_octet f e = go (eqb f.code 0) e
      where
        go : (b : Bool) → get_or (cond b [] (signed_of f auth write)) 0 0 ≡ 8 → f.code ≡ 8
        go true q = absurd (omega (arith, q))
        go false q = q

    pub reply_seen : get_or (receive_octets h xs address read write s auth lent) 0 0 ≡ 8 → ((receive_of h xs address read write s auth lent).answer ≡ Done) × (answer_code ≡ 8)
    unfolding receive_called_of receive_written_of
    reply_seen e = go asked e
      where
        go : (a : Answer) → get_or (written_for a reaction auth write) 0 0 ≡ 8 → ((called_for a h reaction auth write).answer ≡ Done) × (reaction.answer.code ≡ 8)
        go Done q = (refl, first_octet reaction.answer q)
        go (Refused r) q = absurd (omega (arith, q))

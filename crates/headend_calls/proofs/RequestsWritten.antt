-- A message that the head-end's `receive` accepts is one that the reader by itself takes, and so one that the writer takes; in the standard order it
-- is written again with the digest that a key gives in the place of its own, and octet for octet where that one holds under the key.
use mathlib.Core.Path.{◌≡◌, refl, sym, ◌∙◌}
use mathlib.Core.Bool.{Bool, true, false, ◌||◌, not}
use mathlib.Core.List.{List}
use Prim.Native.Nat.{ℕ, ◌≤◌}
use lib.Dec.{eqb}
use lib.ListN.{length, take, drop}
use borrow.Author.Tests.{eqb-true}
use Rattle.questions.specs.Answer.{Done}
use Rattle.key_association.specs.declared.record.Assoc.{Assoc}
use Rattle.message_rules.specs.declared.fields.Receiver.TheVariants.{HeadEnd as AtHeadEnd}
use Rattle.message_rules.specs.Messages.{code_of, identifier_of, receives, question7, identifier_allowed, message_answer, reader_answer_of}
use Rattle.message_rules.specs.Fields.{fields_of}
use Rattle.message_rules.specs.Reading.{taken_of, read_of}
use Rattle.message_rules.specs.Standard.{standard}
use Rattle.message_rules.specs.Ranges.{is_required_of}
use Rattle.message_digest.specs.Digest.{digest_holds_of, signed_of, digest_replaced}
use Rattle.message_digest.specs.Written.{write_of, written_of}
use Rattle.message_digest.proofs.CallLaws.{reader_writes, read-call, held_call}
use Rattle.message_rules.proofs.AttributesLaws.{Octets}
use Rattle.message_rules.proofs.HoldsLaws.{never}
use Rattle.message_rules.proofs.MessageAnswers.{answer_done, read_answer, reader_done}
use Rattle.headend_state.specs.declared.state.HeadEnd.{HeadEnd}
use Rattle.headend_steps.specs.Receive.{identifier_fits_of}
use Rattle.headend_calls.proofs.AnswersSent.{Takes, takes_asked}

-- question 11 at the head-end asks 0 of Authentication Information, and TEK Invalid is not received here
told_by : (s : List ℕ) → message_answer AtHeadEnd s ≡ Done → identifier_fits_of (read_of AtHeadEnd s).fields ≡ true → identifier_allowed (code_of s) (identifier_of s) ≡ true
unfolding identifier_fits_of read_of taken_of fields_of receives
told_by s d e = go (eqb (code_of s) 11) refl (eqb (code_of s) 12) refl
  where
    seven : question7 AtHeadEnd s ≡ true
    seven = ((answer_done AtHeadEnd s).0 d).1

    asked : (not (eqb (code_of s) 12) || eqb (identifier_of s) 0) ≡ true
    asked = rw d at e

    go : (a : Bool) → eqb (code_of s) 11 ≡ a → (b : Bool) → eqb (code_of s) 12 ≡ b → (not (a || b) || eqb (identifier_of s) 0) ≡ true
    go false ea false eb = refl
    go false ea true eb = rw eb at asked
    go true ea b eb = let is : code_of s ≡ 11 = eqb-true (code_of s) 11 ea in let z : false ≡ true = rw is at seven in never z

module _ (h : HeadEnd) (xs : List Assoc) (address : ℕ) (read write s auth : List ℕ) (lent : ℕ) (takes : Takes h xs address read write s auth lent) where
  pub request_read : reader_answer_of AtHeadEnd s ≡ Done
  request_read =
      let q = takes_asked h xs address read write s auth lent takes in
      let d : message_answer AtHeadEnd s ≡ Done = sym (read_answer AtHeadEnd s) ∙ q.read in
      (reader_done AtHeadEnd s).1 (d, told_by s d q.identifier)

  -- no request carries an AUTH-Key: the octets k are as many as were read, none
  pub request_writes : (k key : List ℕ) (room : ℕ) → length k ≡ (taken_of s).key.len → length key ≡ 20 → length (signed_of (taken_of s).fields k key) ≤ room
      → (write_of (taken_of s).fields k key room).answer ≡ Done
  request_writes k key room n wide fits = reader_writes AtHeadEnd s request_read k key room n wide fits

  pub request_again : (key : List ℕ) (room : ℕ) → Octets s → standard s ≡ true → length key ≡ 20 → length s ≤ room
      → ((write_of (taken_of s).fields (take (taken_of s).key.len (drop (taken_of s).key.start s)) key room).answer ≡ Done)
      × (written_of (taken_of s).fields (take (taken_of s).key.len (drop (taken_of s).key.start s)) key room ≡ digest_replaced key s)
  request_again key room o st wide fits = read-call AtHeadEnd s request_read o st key room wide fits

  -- One whose digest holds under the key is written again octet for octet
  pub request_held : (key : List ℕ) (room : ℕ) → Octets s → standard s ≡ true → length key ≡ 20 → length s ≤ room → is_required_of (code_of s) 11 ≡ true
      → digest_holds_of key (taken_of s).digest s ≡ true
      → written_of (taken_of s).fields (take (taken_of s).key.len (drop (taken_of s).key.start s)) key room ≡ s
  request_held key room o st wide fits h right = held_call AtHeadEnd s request_read o st key room wide fits h right

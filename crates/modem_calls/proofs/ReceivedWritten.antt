-- A message that the modem's `receive` accepts is one that the reader by itself takes, and so one that the writer takes; in the standard order it is
-- written again with the digest that a key gives, and under the read key octet for octet.
use mathlib.Core.Path.{◌≡◌, refl}
use mathlib.Core.Bool.{Bool, true, false, ◌||◌, not}
use mathlib.Core.List.{List}
use Prim.Native.Nat.{ℕ, ◌≤◌}
use lib.Dec.{eqb}
use lib.ListN.{length, take, drop}
use borrow.Author.Tests.{eqb-true}
use Rattle.questions.specs.Answer.{Done}
use Rattle.message_rules.specs.declared.fields.Receiver.TheVariants.{Modem as AtModem}
use Rattle.message_rules.specs.Ranges.{is_required_of}
use Rattle.message_rules.specs.Messages.{code_of, identifier_of, receives, question7, identifier_allowed, reader_answer_of}
use Rattle.message_rules.specs.Fields.{fields_of}
use Rattle.message_rules.specs.Reading.{taken_of}
use Rattle.message_rules.specs.Standard.{standard}
use Rattle.message_digest.specs.Digest.{digest_holds_of, signed_of, digest_replaced}
use Rattle.message_digest.specs.Written.{write_of, written_of}
use Rattle.message_rules.proofs.AttributesLaws.{Octets}
use Rattle.message_rules.proofs.HoldsLaws.{never}
use Rattle.message_rules.proofs.MessageAnswers.{answer_done, reader_done}
use Rattle.message_digest.proofs.CallLaws.{reader_writes, read-call, held_call}
use Rattle.modem_steps.specs.declared.state.Modem.{Modem}
use Rattle.modem_receive.specs.Receive.{identifier_fits_of, received, fields_in}
use Rattle.modem_calls.specs.Calls.{receive_answer_of, receive_of}
use Rattle.modem_calls.proofs.CallLaws.{Asked, receive_asked, receive_lengths}
use Rattle.modem_calls.proofs.KeyLaws.{digest_held}
use Rattle.modem_calls.proofs.ReplyTaken.{done_result}

-- question 11 at the modem asks 0 of TEK Invalid, and Authentication Information is not received here
told_by : (m : Modem) (s : List ℕ) → question7 AtModem s ≡ true → identifier_fits_of m (fields_in s) ≡ true → identifier_allowed (code_of s) (identifier_of s) ≡ true
unfolding identifier_fits_of taken_of fields_of receives
told_by m s seven e = go (eqb (code_of s) 11) refl (eqb (code_of s) 12) refl
  where
    go : (a : Bool) → eqb (code_of s) 11 ≡ a → (b : Bool) → eqb (code_of s) 12 ≡ b → (not (a || b) || eqb (identifier_of s) 0) ≡ true
    go false ea false eb = refl
    go true ea b eb = let is : code_of s ≡ 11 = eqb-true (code_of s) 11 ea in rw is at e
    go false ea true eb = let is : code_of s ≡ 12 = eqb-true (code_of s) 12 eb in let z : false ≡ true = rw is at seven in never z

module _ (m : Modem) (s read write : List ℕ) (lent : ℕ) (done : (receive_of m s read write lent).called.answer ≡ Done) where
  all_met : receive_answer_of m s read write lent ≡ Done
  unfolding receive_of
  all_met = done_result (receive_answer_of m s read write lent) m write (received m (fields_in s)) done

  asked : Asked m s read
  asked = receive_asked m s read write lent all_met

  pub received_read : reader_answer_of AtModem s ≡ Done
  received_read = (reader_done AtModem s).1 (asked.read, told_by m s ((answer_done AtModem s).0 asked.read).1 asked.answers)

  -- with an AUTH-Key as long as its own and any message key of 20 octets, where the lent slice is long enough
  pub received_writes : (auth key : List ℕ) (room : ℕ) → length auth ≡ (taken_of s).key.len → length key ≡ 20
      → length (signed_of (fields_in s) auth key) ≤ room → (write_of (fields_in s) auth key room).answer ≡ Done
  received_writes auth key room n k fits = reader_writes AtModem s received_read auth key room n k fits

  module _ (room : ℕ) (o : Octets s) (st : standard s ≡ true) (fits : length s ≤ room) where
    abbrev auth : List ℕ
    auth = take (taken_of s).key.len (drop (taken_of s).key.start s)

    -- in the standard order: with the digest that the key gives in the place of its own
    pub received_again : (key : List ℕ) → length key ≡ 20
        → ((write_of (fields_in s) auth key room).answer ≡ Done) × (written_of (fields_in s) auth key room ≡ digest_replaced key s)
    received_again key k = read-call AtModem s received_read o st key room k fits

    -- A message that carries a digest was taken under the read key: under that key it is written again octet for octet
    pub received_same : is_required_of (code_of s) 11 ≡ true
        → ((write_of (fields_in s) auth read room).answer ≡ Done) × (written_of (fields_in s) auth read room ≡ s)
    received_same carries =
        let k = (receive_lengths m s read write lent all_met).0 in
        let right = digest_held s (digest_holds_of read (taken_of s).digest s) asked.read asked.holds carries in
        ((received_again read k).0, held_call AtModem s received_read o st read room k fits carries right)

-- The modem's reader reads back exactly the fields of each of the head-end's answers, whatever padding follows.
use mathlib.Core.Path.{◌≡◌, refl}
use mathlib.Core.Bool.{Bool, true, false, cond, not}
use mathlib.Core.List.{List, ◌++◌}
use Prim.Native.Nat.{ℕ, ◌≤◌}
use native.Mathlib.Omega.{arith}
use lib.Dec.{eqb}
use lib.ListN.{length}
use borrow.Author.Tests.{ne_eqb}
use Rattle.questions.specs.Answer.{Done}
use Rattle.message_rules.specs.declared.fields.Fields.{Fields}
use Rattle.message_rules.specs.declared.fields.Reading.{Reading}
use Rattle.message_rules.specs.declared.fields.Receiver.TheVariants.{Modem}
use Rattle.message_rules.specs.Ranges.{required_of, among, is_required_of}
use Rattle.message_rules.specs.Messages.{receives, receiver_of}
use Rattle.message_rules.specs.Fields.{no_fields}
use Rattle.message_rules.specs.Reading.{read_of}
use Rattle.message_rules.specs.Limits.{fields_fit_of, auth_key_fits_of}
use Rattle.digest_hmac.specs.Hmac.{hmac}
use Rattle.message_digest.specs.Digest.{digest_holds_of, bare, signed_of}
use Rattle.message_digest.proofs.SignedLaws.{signed_read, signed_holds}
use Rattle.message_rules.proofs.HoldsLaws.{never}
use Rattle.message_rules.proofs.CodesLaws.{by_code}
use Rattle.message_rules.proofs.FieldsFit.{Shaped, fit}
use Rattle.message_rules.proofs.WrittenRead.{key_place, digest_place}
use Rattle.key_association.specs.declared.listing.Listing.{Listing}
use Rattle.key_association.specs.declared.record.Assoc.{Assoc}
use Rattle.key_association.specs.declared.search.Found.{Found}
use Rattle.key_association.proofs.RecordLaws.{InLimits}
use Rattle.headend_state.specs.Authorization.{life_left}
use Rattle.headend_state.specs.declared.state.AuthKeys.{AuthKeys}
use Rattle.headend_state.specs.declared.state.HeadEnd.{HeadEnd}
use Rattle.headend_state.specs.declared.entries.Known.{Known}
use Rattle.headend_state.specs.Entries.{known_of}
use Rattle.headend_answers.specs.AnswerFields.{error_answer_of, reject, invalid, key_reject, reply_answer_of, key_reply_of}
use Rattle.headend_answers.specs.Answers.{key_answer_of, keys_after, request_answer, request_reaction_of, reaction_of}
use Rattle.headend_steps.specs.Receive.{answer_octets, receive_answer_of, reaction_to, receive_called_of, receive_written_of}
use Rattle.headend_steps.proofs.AnswerFields.{key_reply_fits}
use Rattle.headend_steps.proofs.AnswerFits.{by_key_answer, reaction_writable}

-- What is read of an answer
abbrev pub read_back_of : Fields → List ℕ → List ℕ → Reading
read_back_of f auth write = record { answer = Done; fields = f; key = key_place f auth; digest = digest_place f auth (hmac write (bare f auth)) }

to_modem : (c : ℕ) → 4 ≤ c → c ≤ 12 → receives Modem c ≡ true → receiver_of c ≡ Modem
unfolding receives receiver_of
to_modem = by_code (λ c. receives Modem c ≡ true → receiver_of c ≡ Modem) never (λ h. refl) (λ h. refl) never (λ h. refl) (λ h. refl) (λ h. refl) (λ h. refl) never

-- Any fields within the limits, of a code that modems receive
module _ (f : Fields) (auth write padding : List ℕ) (shaped : Shaped f) (mine : receives Modem f.code ≡ true) (e : fields_fit_of f ≡ true)
    (k : auth_key_fits_of f (length auth) ≡ true) where
  octets_are : answer_octets f auth write ≡ signed_of f auth write
  unfolding answer_octets
  octets_are = let some : eqb f.code 0 ≡ false = ne_eqb f.code 0 (λ q. omega (arith, (fit f auth e k).low)) in rw some

  there : receiver_of f.code ≡ Modem
  there = to_modem f.code (fit f auth e k).low (fit f auth e k).high mine

  pub answer_read : read_of Modem (answer_octets f auth write ++ padding) ≡ read_back_of f auth write
  answer_read = rw octets_are (rw there at (signed_read f auth write padding shaped e k))

  -- Its digest, where it carries one, holds under the key that it was written with
  pub answer_holds : is_required_of f.code 11 ≡ true
      → digest_holds_of write (read_of Modem (answer_octets f auth write ++ padding)).digest (answer_octets f auth write ++ padding) ≡ true
  answer_holds h = rw octets_are (rw there at (signed_holds f auth write padding shaped e k h))

-- ---- the arrays have their declared lengths
pub error_shaped : (f : Fields) (code e : ℕ) → Shaped (error_answer_of code f.identifier f.ak f.said e)
error_shaped f code e = record { descriptors = refl; older = record { tek = refl; vector = refl }; newer = record { tek = refl; vector = refl } }

pub reject_shaped : (i e : ℕ) → Shaped (reject i e)
reject_shaped i e = record { descriptors = refl; older = record { tek = refl; vector = refl }; newer = record { tek = refl; vector = refl } }

pub invalid_shaped : (i e : ℕ) → Shaped (invalid i e)
invalid_shaped i e = record { descriptors = refl; older = record { tek = refl; vector = refl }; newer = record { tek = refl; vector = refl } }

pub reply_shaped : (clock i : ℕ) (l : Listing) (k : AuthKeys) → Shaped (reply_answer_of clock i l k)
reply_shaped clock i l k = record { descriptors = refl; older = record { tek = refl; vector = refl }; newer = record { tek = refl; vector = refl } }

pub record ShapedRecord (a : Assoc) : Type 0 where
  pub older_tek : length a.older.tek ≡ 16
  pub older_vector : length a.older.vector ≡ 16
  pub newer_tek : length a.newer.tek ≡ 16
  pub newer_vector : length a.newer.vector ≡ 16

pub key_reply_shaped : (clock : ℕ) (a : Assoc) (f : Fields) → ShapedRecord a → Shaped (key_reply_of clock a f)
key_reply_shaped clock a f n =
    record {
      descriptors = refl;
      older = record { tek = n.older_tek; vector = n.older_vector };
      newer = record { tek = n.newer_tek; vector = n.newer_vector };
    }

-- ---- a Key Reply
module _ (auth write padding : List ℕ) where
  pub key_reply_read : (half clock : ℕ) (a : Assoc) (f : Fields) → ShapedRecord a → InLimits half clock a → 1 ≤ half → life_left clock a.newer.deadline ≤ 604800
      → f.ak.0 ≤ 15 → f.said ≤ 16383
      → read_of Modem (answer_octets (key_reply_of clock a f) auth write ++ padding) ≡ read_back_of (key_reply_of clock a f) auth write
  unfolding receives auth_key_fits_of is_required_of required_of among
  key_reply_read half clock a f n i some short low small =
      answer_read (key_reply_of clock a f) auth write padding (key_reply_shaped clock a f n) refl (key_reply_fits half clock a i some short f low small) refl

-- ---- the answer to a message that is taken
pub record Sendable (f : Fields) : Type 0 where
  pub shaped : Shaped f
  pub mine : eqb f.code 0 ≡ false → receives Modem f.code ≡ true

reject_sends : (i e : ℕ) → Sendable (reject i e)
unfolding receives
reject_sends i e = record { shaped = reject_shaped i e; mine = λ q. refl }

invalid_sends : (i e : ℕ) → Sendable (invalid i e)
unfolding receives
invalid_sends i e = record { shaped = invalid_shaped i e; mine = λ q. refl }

key_reject_sends : (f : Fields) (e : ℕ) → Sendable (key_reject f e)
unfolding receives
key_reject_sends f e = record { shaped = error_shaped f 9 e; mine = λ q. refl }

reply_sends : (clock i : ℕ) (l : Listing) (k : AuthKeys) → Sendable (reply_answer_of clock i l k)
unfolding receives
reply_sends clock i l k = record { shaped = reply_shaped clock i l k; mine = λ q. refl }

key_reply_sends : (clock : ℕ) (a : Assoc) (f : Fields) → ShapedRecord a → Sendable (key_reply_of clock a f)
unfolding receives
key_reply_sends clock a f n = record { shaped = key_reply_shaped clock a f n; mine = λ q. refl }

none_sends : Sendable no_fields
none_sends =
    record {
      shaped = record { descriptors = refl; older = record { tek = refl; vector = refl }; newer = record { tek = refl; vector = refl } };
      mine = λ q. let z : ◌≡◌ {A = ℕ} 0 1 = cc in absurd (omega arith);
    }

module _ (h : HeadEnd) (k : Known) (a : Assoc) (digest : Bool) (f : Fields) (n : ShapedRecord a) where
  request_sends : Sendable (request_answer h k f.identifier)
  unfolding request_answer
  request_sends = go k.is_listed (eqb k.entry.allowed 0)
    where
      go : (x y : Bool)
          → Sendable (cond (not x) (reject f.identifier 1) (cond y (reject f.identifier 6) (reply_answer_of h.clock f.identifier k.entry.listing (keys_after h k.entry))))
      go false y = reject_sends f.identifier 1
      go true true = reject_sends f.identifier 6
      go true false = reply_sends h.clock f.identifier k.entry.listing (keys_after h k.entry)

  key_sends : Sendable (key_answer_of h.clock k a digest f)
  key_sends =
      by_key_answer h.clock k a digest f Sendable
      (invalid_sends f.identifier 1)
      (λ e₁. invalid_sends f.identifier 4)
      (λ e₁ e₂. invalid_sends f.identifier 5)
      (λ e₁ e₂. key_reject_sends f 2)
      (λ w. key_reply_sends h.clock a f n)

  pub reaction_sends : Sendable (reaction_of h k a digest f).answer
  unfolding reaction_of
  reaction_sends = go (eqb f.code 4) (eqb f.code 7)
    where
      go : (x y : Bool)
          → Sendable (cond x (request_reaction_of h k f.identifier) (cond y (record { state = h; answer = key_answer_of h.clock k a digest f }) (record { state = h; answer = no_fields }))).answer
      go true y = request_sends
      go false true = key_sends
      go false false = none_sends

module _ (h : HeadEnd) (bad len : ℕ) (s : Found) (address : ℕ) (digest keys : Bool) (r : Reading) (auth write : List ℕ) (lent : ℕ)
    (done : receive_answer_of h bad len s address digest keys r (length auth) lent ≡ Done) where
  -- what the call writes
  pub written_is : receive_written_of h bad len s address digest keys r auth write lent ≡ answer_octets (reaction_to h s address digest r).answer auth write
  unfolding receive_written_of
  written_is = rw done

  pub called_is : receive_called_of h bad len s address digest keys r auth write lent
      ≡ record { answer = Done; state = (reaction_to h s address digest r).state; count = length (answer_octets (reaction_to h s address digest r).answer auth write) }
  unfolding receive_called_of
  called_is = rw done

  module _ (wide : length write ≡ 20) (padding : List ℕ) (n : ShapedRecord s.held) (some : eqb (reaction_to h s address digest r).answer.code 0 ≡ false) where
    -- Where there is an answer, the modem reads its fields
    pub reaction_read : read_of Modem (receive_written_of h bad len s address digest keys r auth write lent ++ padding) ≡ read_back_of (reaction_to h s address digest r).answer auth write
    reaction_read =
        let f = (reaction_to h s address digest r).answer in
        let w = reaction_writable h bad len s address digest keys r auth write lent done wide in
        let t = reaction_sends h (known_of h address) s.held digest r.fields n in
        rw written_is (answer_read f auth write padding t.shaped (t.mine some) (w.fields some) w.auth-key)

    -- and its digest, where it carries one, holds under the key that it was written with
    pub reaction_holds : is_required_of (reaction_to h s address digest r).answer.code 11 ≡ true
        → digest_holds_of write (read_of Modem (receive_written_of h bad len s address digest keys r auth write lent ++ padding)).digest
        (receive_written_of h bad len s address digest keys r auth write lent ++ padding)
        ≡ true
    reaction_holds q =
        let f = (reaction_to h s address digest r).answer in
        let w = reaction_writable h bad len s address digest keys r auth write lent done wide in
        let t = reaction_sends h (known_of h address) s.held digest r.fields n in
        rw written_is (answer_holds f auth write padding t.shaped (t.mine some) (w.fields some) w.auth-key q)

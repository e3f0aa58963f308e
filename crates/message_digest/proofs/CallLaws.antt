-- The writer's call and the readings: what it writes under a key is read back, and the digest holds under that key; what was read is written again, in
-- the standard order with the digest that the key gives in the place of its own, and octet for octet where that one holds.
use Prim.Native.Nat.{ℕ, ◌-◌, ◌≤◌}
use mathlib.Core.Path.{◌≡◌, refl, sym, ap, ◌∙◌}
use mathlib.Core.Bool.{Bool, true, false, cond, ◌&&◌}
use mathlib.Core.List.{List, [], ◌∷◌, ◌++◌}
use native.Mathlib.Omega.{arith}
use borrow.Author.Tests.{le-leb, eq-eqb}
use lib.Dec.{leb}
use lib.ListN.{length, take, drop, length-append, length-take}
use Rattle.digest_hmac.specs.Hmac.{hmac}
use Rattle.digest_hmac.proofs.FillLaws.{length_hmac}
use Rattle.questions.specs.Answer.{Done}
use Rattle.questions.specs.declared.refusal.Refusal.TheVariants.{OutOfLimits, WrongLength}
use Rattle.questions.specs.Questions.{first_no}
use Rattle.questions.proofs.TestLaws.{both}
use Rattle.message_rules.specs.declared.fields.Fields.{Fields}
use Rattle.message_rules.specs.declared.fields.Receiver.{Receiver}
use Rattle.message_rules.specs.Ranges.{is_required_of}
use Rattle.message_rules.specs.Messages.{code_of, receiver_of, reader_answer_of}
use Rattle.message_rules.specs.Limits.{fields_fit_of, auth_key_fits_of}
use Rattle.message_rules.specs.Fields.{fields_of}
use Rattle.message_rules.specs.Reading.{taken_of, read_of, reader_of}
use Rattle.message_rules.specs.Standard.{standard}
use Rattle.message_rules.proofs.AttributesLaws.{Octets}
use Rattle.message_rules.proofs.FieldsFit.{Shaped, fit}
use Rattle.message_rules.proofs.MessageAnswers.{reader_done, reader_reads}
use Rattle.message_rules.proofs.ReadFits.{reader_fits}
use Rattle.message_rules.proofs.WrittenRead.{key_place, digest_place, reader_takes, key_read}
use Rattle.message_rules.proofs.WrittenStandard.{written_standard}
use Rattle.message_rules.proofs.KeyPlace.{key_length}
use Rattle.message_digest.specs.Digest.{digest_holds_of, message_key_fits_of, bare, signed_of, digest_replaced}
use Rattle.message_digest.specs.Written.{write_questions, written_of, write_of}
use Rattle.message_digest.proofs.SignedLaws.{signed_read, signed_holds, read_plain, read_signed, held_again, long_enough}

both_met : (a b : Bool) → first_no (record { refusal = OutOfLimits; met = a } ∷ record { refusal = WrongLength; met = b } ∷ []) ≡ Done → (a ≡ true) × (b ≡ true)
both_met true true e = (refl, refl)
both_met true false e = let z : ◌≡◌ {A = ℕ} 0 1 = cc in absurd (omega arith)
both_met false b e = let z : ◌≡◌ {A = ℕ} 0 1 = cc in absurd (omega arith)

module _ (f : Fields) (auth key : List ℕ) (lent : ℕ) where
  -- a call that is done: its questions are met, and it wrote the message
  pub call_asked : (write_of f auth key lent).answer ≡ Done
      → (fields_fit_of f ≡ true) × (auth_key_fits_of f (length auth) ≡ true) × (written_of f auth key lent ≡ signed_of f auth key)
  unfolding write_of written_of write_questions
  call_asked done =
      let long = leb (length (signed_of f auth key)) lent in
      let asked = both_met (fields_fit_of f) (auth_key_fits_of f (length auth) && message_key_fits_of key && long) done in
      let second = both (auth_key_fits_of f (length auth)) (message_key_fits_of key) (both (auth_key_fits_of f (length auth) && message_key_fits_of key) long asked.1).0 in
      (asked.0, second.0, rw done)

  -- where they are met, it is done
  pub call_done : fields_fit_of f ≡ true → auth_key_fits_of f (length auth) ≡ true → length key ≡ 20 → length (signed_of f auth key) ≤ lent
      → ((write_of f auth key lent).answer ≡ Done) × (written_of f auth key lent ≡ signed_of f auth key)
  unfolding write_of written_of write_questions
  call_done e a k room =
      let q = eq-eqb (length key) 20 k in
      let r = le-leb (length (signed_of f auth key)) lent room in
      (rw (e, a, q, r), rw (e, a, q, r))

  module _ (padding : List ℕ) (s : Shaped f) (done : (write_of f auth key lent).answer ≡ Done) where
    -- What it writes is read back, also with padding behind
    pub call_read : read_of (receiver_of f.code) (written_of f auth key lent ++ padding)
        ≡ record { answer = Done; fields = f; key = key_place f auth; digest = digest_place f auth (hmac key (bare f auth)) }
    call_read = let a = call_asked done in rw a.2 (signed_read f auth key padding s a.0 a.1)

    -- by the reader by itself too
    pub call_reader : (reader_answer_of (receiver_of f.code) (written_of f auth key lent ++ padding) ≡ Done)
        × (reader_of (receiver_of f.code) (written_of f auth key lent ++ padding)
        ≡ record { answer = Done; fields = f; key = key_place f auth; digest = digest_place f auth (hmac key (bare f auth)) })
    unfolding signed_of
    call_reader =
        let a = call_asked done in
        let e = receiver_of f.code in
        let m = written_of f auth key lent ++ padding in
        let takes : reader_answer_of e m ≡ Done = rw a.2 (reader_takes f auth (hmac key (bare f auth)) s (fit f auth a.0 a.1) (length_hmac key (bare f auth)) padding) in
        (takes, reader_reads e m takes ∙ call_read)

    -- and so is the AUTH-Key
    pub call_key : is_required_of f.code 7 ≡ true
        → take (read_of (receiver_of f.code) (written_of f auth key lent ++ padding)).key.len
        (drop (read_of (receiver_of f.code) (written_of f auth key lent ++ padding)).key.start (written_of f auth key lent ++ padding))
        ≡ auth
    unfolding signed_of
    call_key h =
        let a = call_asked done in
        rw (call_read, h, a.2) (key_read f auth (hmac key (bare f auth)) padding s a.0 a.1 (length_hmac key (bare f auth)) h)

    -- The digest holds under the key that it was written with
    pub call_holds : is_required_of f.code 11 ≡ true
        → digest_holds_of key (read_of (receiver_of f.code) (written_of f auth key lent ++ padding)).digest (written_of f auth key lent ++ padding) ≡ true
    call_holds h = let a = call_asked done in rw a.2 (signed_holds f auth key padding s a.0 a.1 h)

  -- What it writes is in the standard order
  pub call_standard : Shaped f → (write_of f auth key lent).answer ≡ Done → standard (written_of f auth key lent) ≡ true
  unfolding signed_of
  call_standard s done =
      let a = call_asked done in
      rw a.2 (written_standard f auth (hmac key (bare f auth)) s a.0 a.1 (length_hmac key (bare f auth)))

-- ---- read, then written
module _ (e : Receiver) (s : List ℕ) (d : reader_answer_of e s ≡ Done) where
  -- The writer takes what the reader took: done, with an AUTH-Key as long as the one that was read, where the message fits the lent slice
  pub reader_writes : (auth key : List ℕ) (lent : ℕ) → length auth ≡ (taken_of s).key.len → length key ≡ 20
      → length (signed_of (taken_of s).fields auth key) ≤ lent → (write_of (taken_of s).fields auth key lent).answer ≡ Done
  reader_writes auth key lent n k m =
      let q = reader_fits e s d in
      (call_done (taken_of s).fields auth key lent q.0 (ap (auth_key_fits_of (taken_of s).fields) n ∙ q.1) k m).0

  module _ (o : Octets s) (st : standard s ≡ true) where
    abbrev own : Fields
    own = (taken_of s).fields

    abbrev auth : List ℕ
    auth = take (taken_of s).key.len (drop (taken_of s).key.start s)

    code_is : own.code ≡ code_of s
    unfolding taken_of fields_of
    code_is = refl

    -- the message of the fields and the AUTH-Key that were read, under a key
    pub signed_again : (key : List ℕ) → signed_of own auth key ≡ digest_replaced key s
    unfolding digest_replaced
    signed_again key = go (is_required_of (code_of s) 11) refl
      where
        go : (b : Bool) → is_required_of (code_of s) 11 ≡ b → signed_of own auth key ≡ cond b (take (length s - 20) s ++ hmac key (take (length s - 23) s)) s
        go true h = read_signed e s o d st (ap (λ (c : ℕ). is_required_of c 11) code_is ∙ h) key
        go false h = read_plain e s o d st key (ap (λ (c : ℕ). is_required_of c 11) code_is ∙ h)

    pub replaced_length : (key : List ℕ) → length (digest_replaced key s) ≡ length s
    unfolding digest_replaced
    replaced_length key = go (is_required_of (code_of s) 11) refl
      where
        go : (b : Bool) → is_required_of (code_of s) 11 ≡ b → length (cond b (take (length s - 20) s ++ hmac key (take (length s - 23) s)) s) ≡ length s
        go true h =
            let n = long_enough e s o d st (ap (λ (c : ℕ). is_required_of c 11) code_is ∙ h) in
            omega (arith, n, length-append (take (length s - 20) s) (hmac key (take (length s - 23) s)), length-take (length s - 20) s, length_hmac key (take (length s - 23) s))
        go false h = refl

    -- In the standard order, the fields and the AUTH-Key that were read are written again, where the lent slice is as long as the message
    pub read-call : (key : List ℕ) (lent : ℕ) → length key ≡ 20 → length s ≤ lent
        → ((write_of own auth key lent).answer ≡ Done) × (written_of own auth key lent ≡ digest_replaced key s)
    read-call key lent k m =
        let same = signed_again key in
        let q = reader_fits e s d in
        let n : auth_key_fits_of own (length auth) ≡ true = ap (auth_key_fits_of own) (key_length e s o ((reader_done e s).0 d).0 st) ∙ q.1 in
        let done = call_done own auth key lent q.0 n k (omega (arith, ap length same, replaced_length key, m)) in
        (done.0, done.1 ∙ same)

    -- One whose digest holds under the key is written again octet for octet
    pub held_call : (key : List ℕ) (lent : ℕ) → length key ≡ 20 → length s ≤ lent → is_required_of (code_of s) 11 ≡ true → digest_holds_of key (taken_of s).digest s ≡ true
        → written_of own auth key lent ≡ s
    held_call key lent k m h right =
        (read-call key lent k m).1 ∙ sym (signed_again key) ∙ held_again e s o d st (ap (λ (c : ℕ). is_required_of c 11) code_is ∙ h) key right

-- The round trip of C's own calls. What `curlewreel_write` wrote, `curlewreel_read` reads back as the same octets of fields, also with padding
-- behind, and tells that the digest holds under the same key; and what `curlewreel_read` took in the standard order, `curlewreel_write` writes again with
-- the digest that its key gives: octet for octet, where the digest was told to hold under the same key.
use Prim.Native.Nat.{ℕ, ◌≤◌}
use mathlib.Core.Path.{◌≡◌, refl, sym, ap, ◌∙◌}
use mathlib.Core.Bool.{Bool, true, false, ◌&&◌}
use mathlib.Core.List.{List, [], ◌∷◌, ◌++◌, append-nil}
use native.Mathlib.Omega.{arith}
use lib.Dec.{leb, eqb}
use lib.ListN.{length, get_or, take, drop, length-append}
use lib.Seq.{length-take-le}
use borrow.Author.Tests.{leb-true, le-leb, eq-eqb, eqb-true}
use Rattle.questions.specs.Answer.{Answer, Done}
use Rattle.questions.specs.Refusal.{answer_number_of}
use Rattle.questions.proofs.AnswerLaws.{done_met, met_done}
use Rattle.questions.proofs.TestLaws.{both}
use Rattle.message_rules.specs.declared.fields.Fields.{Fields}
use Rattle.message_rules.specs.declared.fields.Place.{Place}
use Rattle.message_rules.specs.declared.fields.Reading.{Reading}
use Rattle.message_rules.specs.declared.fields.Receiver.{Receiver}
use Rattle.message_rules.specs.Attributes.{be16, two}
use Rattle.message_rules.specs.Ranges.{is_required_of}
use Rattle.message_rules.specs.Limits.{auth_key_fits_of}
use Rattle.message_rules.specs.Messages.{code_of, receiver_of, reader_questions, reader_answer_of}
use Rattle.message_rules.specs.Reading.{taken_of, reading_for, read_of, reader_of}
use Rattle.message_rules.specs.Standard.{standard}
use Rattle.message_rules.proofs.AttributesLaws.{Octets, be16_two}
use Rattle.message_rules.proofs.FieldsFit.{fit}
use Rattle.message_rules.proofs.MessageAnswers.{reader_done}
use Rattle.message_rules.proofs.ReadFits.{read_shaped}
use Rattle.message_rules.proofs.KeyPlace.{key_held}
use Rattle.message_rules.proofs.WrittenRead.{key_place, digest_place, key_read}
use Rattle.digest_hmac.specs.Hmac.{hmac}
use Rattle.digest_hmac.proofs.FillLaws.{length_hmac}
use Rattle.message_digest.specs.Digest.{digest_holds_of, message_key_fits_of, bare, signed_of, digest_replaced}
use Rattle.message_digest.specs.Written.{write_questions, written_of, write_of}
use Rattle.message_digest.proofs.CallLaws.{call_asked, call_read, call_reader, call_holds, read-call, held_call}
use Rattle.c_layout.specs.Layout.{fields_from_of, fields_octets, place_laid, holds_octet_of, reading_octets, part_at}
use Rattle.c_layout.proofs.LayoutLaws.{length_fields}
use Rattle.c_layout.proofs.LaidAgain.{laid_again}
use Rattle.c_layout.proofs.ReadHeld.{reading_back, reading_told}
use Rattle.curlewreel.specs.Read.{receiver_at, read_questions, read_octets, Call, call_for, read_call_of}
use Rattle.curlewreel.proofs.ReadLaws.{read_asked}
use Rattle.curlewreel.proofs.RoundTripParts.{call_number, end_of, end_is, key_in, place_start, place_length, from_shaped, reply_carries, read_back_of, told_at, holds_carries}
use Rattle.curlewreel.specs.Write.{write_call_questions, write_call_for, write_call_of}
use Rattle.curlewreel.proofs.WriteLaws.{call_of_writer}

-- ---- written, then read

-- where the digest stands in the message that is written from octets of fields
abbrev pub digest_in : List ℕ → List ℕ → List ℕ → Place
digest_in s auth key = digest_place (fields_from_of s) auth (hmac key (bare (fields_from_of s) auth))

module _ (s auth key : List ℕ) (room : ℕ) (done : (write_call_of s auth key room).number ≡ 0) where
  write_asked : (109 ≤ length s) × ((write_of (fields_from_of s) auth key room).answer ≡ Done)
  unfolding write_call_for write_call_questions write_of
  write_asked =
      let q = done_met (write_call_questions (fields_from_of s) (length s) auth key room) (call_number _ _ done) in
      (leb-true 109 (length s) q.1.0, met_done (write_questions (fields_from_of s) auth key room) q.1.1)

  key_asked : length key ≡ 20
  unfolding write_of write_questions
  key_asked =
      let f = fields_from_of s in
      let long = leb (length (signed_of f auth key)) room in
      let q = done_met (write_questions f auth key room) write_asked.1 in
      eqb-true (length key) 20 (both (auth_key_fits_of f (length auth)) (message_key_fits_of key) (both (auth_key_fits_of f (length auth) && message_key_fits_of key) long q.1.0).0).1

  written_is : (write_call_of s auth key room).written ≡ written_of (fields_from_of s) auth key room
  written_is = ap (λ (c : Call). c.written) (call_of_writer (fields_from_of s) (length s) auth key room (le-leb 109 (length s) write_asked.0))

  -- under any key of 20 octets
  pub write_then_read : (padding read : List ℕ) (lent : ℕ) → Octets s → length read ≡ 20 → 118 ≤ lent
      → read_call_of (end_of (get_or s 0 0)) ((write_call_of s auth key room).written ++ padding) read lent
      ≡ record {
        number = 0;
        written =
            read_back_of s (key_place (fields_from_of s) auth) (digest_in s auth key)
            (digest_holds_of read (digest_in s auth key) ((write_call_of s auth key room).written ++ padding));
      }
  unfolding reading_octets fields_from_of
  write_then_read padding read lent o twenty long =
      let f = fields_from_of s in
      let e = end_is (get_or s 0 0) in
      let m = written_of f auth key room ++ padding in
      let r = call_reader f auth key room padding (from_shaped s) write_asked.1 in
      let q : (message_key_fits_of read && leb 118 lent) ≡ true = rw (eq-eqb (length read) 20 twenty, le-leb 118 lent long) refl in
      let t = digest_holds_of read (digest_in s auth key) m in
      ap (λ (w : List ℕ). read_call_of (end_of (get_or s 0 0)) (w ++ padding) read lent) written_is
      ∙ read_asked (end_of (get_or s 0 0)) m read lent e.1 q
      ∙ ap (λ (x : Receiver). call_for (reader_answer_of x m) (read_octets x m read)) e.0
      ∙ ap (λ (a : Answer). call_for a (read_octets (receiver_of f.code) m read)) r.0
      ∙ ap (λ (x : Reading). call_for Done (reading_octets x (digest_holds_of read x.digest m))) r.1
      ∙ ap (λ (w : List ℕ). call_for Done (w ++ (place_laid (key_place f auth) ++ (place_laid (digest_in s auth key) ++ (holds_octet_of t ∷ []))))) (laid_again s o write_asked.0)
      ∙ ap (λ (w : List ℕ). call_for Done (read_back_of s (key_place f auth) (digest_in s auth key) (digest_holds_of read (digest_in s auth key) (w ++ padding)))) (sym written_is)

  -- under the key that it was written with the digest holds, where the code carries one
  same_holds : (padding : List ℕ) → digest_holds_of key (digest_in s auth key) (written_of (fields_from_of s) auth key room ++ padding) ≡ is_required_of (fields_from_of s).code 11
  unfolding digest_holds_of
  same_holds padding = go (is_required_of f.code 11) refl
    where
      f : Fields
      f = fields_from_of s

      m : List ℕ
      m = written_of f auth key room ++ padding

      go : (b : Bool) → is_required_of f.code 11 ≡ b → digest_holds_of key (digest_in s auth key) m ≡ b
      go true h =
          ap (λ (r : Reading). digest_holds_of key r.digest m) (sym (call_read f auth key room padding (from_shaped s) write_asked.1))
          ∙ call_holds f auth key room padding (from_shaped s) write_asked.1 h
      go false h = rw h refl

  pub write_then_told : (padding : List ℕ) (lent : ℕ) → Octets s → 118 ≤ lent
      → get_or (read_call_of (end_of (get_or s 0 0)) ((write_call_of s auth key room).written ++ padding) key lent).written 117 0 ≡ holds_octet_of (is_required_of (get_or s 0 0) 11)
  unfolding fields_from_of
  write_then_told padding lent o long =
      let p = key_place (fields_from_of s) auth in
      let q = digest_in s auth key in
      let wide : length (take 109 s) ≡ 109 = length-take-le 109 s write_asked.0 in
      ap (λ (c : Call). get_or c.written 117 0) (write_then_read padding key lent o key_asked long)
      ∙ ap (λ (w : List ℕ). get_or (read_back_of s p q (digest_holds_of key q (w ++ padding))) 117 0) written_is
      ∙ ap (λ (t : Bool). get_or (read_back_of s p q t) 117 0) (same_holds padding)
      ∙ told_at (take 109 s) p q (is_required_of (get_or s 0 0) 11) wide

  -- and of an Authorization Reply the AUTH-Key that was lent, at the place that the reading tells
  pub write_then_key : (padding read : List ℕ) (lent : ℕ) → Octets s → length read ≡ 20 → 118 ≤ lent → get_or s 0 0 ≡ 5
      → key_in (read_call_of (end_of (get_or s 0 0)) ((write_call_of s auth key room).written ++ padding) read lent).written ((write_call_of s auth key room).written ++ padding) ≡ auth
  unfolding place_laid fields_from_of signed_of
  write_then_key padding read lent o twenty long five =
      let f = fields_from_of s in
      let h = reply_carries f.code five in
      let a = call_asked f auth key room write_asked.1 in
      let n = (fit f auth a.0 a.1).key h in
      let v = (write_call_of s auth key room).written ++ padding in
      let q = place_laid (digest_in s auth key) ++ (holds_octet_of (digest_holds_of read (digest_in s auth key) v) ∷ []) in
      let w = take 109 s ++ ((two 7 ++ two (length auth)) ++ q) in
      let m = written_of f auth key room ++ padding in
      let wide : length (take 109 s) ≡ 109 = length-take-le 109 s write_asked.0 in
      let place : place_laid (key_place f auth) ≡ two 7 ++ two (length auth) = rw h refl in
      let is : (read_call_of (end_of (get_or s 0 0)) v read lent).written ≡ w =
      ap (λ (c : Call). c.written) (write_then_read padding read lent o twenty long) ∙ ap (λ (x : List ℕ). take 109 s ++ (x ++ q)) place in
      let start : be16 (part_at 109 2 w) ≡ 7 = ap be16 (place_start (take 109 s) q 7 (length auth) wide) ∙ be16_two 7 (omega arith) in
      let len : be16 (part_at 111 2 w) ≡ length auth = ap be16 (place_length (take 109 s) q 7 (length auth) wide) ∙ be16_two (length auth) (omega (arith, n.1)) in
      ap (λ (x : List ℕ). key_in x v) is
      ∙ ap (λ (x : List ℕ). key_in w (x ++ padding)) written_is
      ∙ ap (λ (k : ℕ). take k (drop (be16 (part_at 109 2 w)) m)) len
      ∙ ap (λ (k : ℕ). take (length auth) (drop k m)) start
      ∙ rw a.2 (key_read f auth (hmac key (bare f auth)) padding (from_shaped s) a.0 a.1 (length_hmac key (bare f auth)) h)

-- ---- read, then written

module _ (end : ℕ) (s read : List ℕ) (lent : ℕ) (done : (read_call_of end s read lent).number ≡ 0) where
  read_met : (leb end 1 ≡ true) × ((message_key_fits_of read && leb 118 lent) ≡ true) × (reader_answer_of (receiver_at end) s ≡ Done)
  unfolding read_call_of read_questions reader_answer_of
  read_met =
      let q = done_met (read_questions end s read lent) (call_number _ _ done) in
      (q.0, q.1.0, met_done (reader_questions (receiver_at end) s) q.1.1)

  abbrev told : Bool
  told = digest_holds_of read (taken_of s).digest s

  read_is : (read_call_of end s read lent).written ≡ reading_octets (taken_of s) told
  unfolding reader_of
  read_is =
      ap (λ (c : Call). c.written) (read_asked end s read lent read_met.0 read_met.1)
      ∙ ap (λ (a : Answer). (call_for a (reading_octets (reading_for a s) (digest_holds_of read (reading_for a s).digest s))).written) read_met.2

  told_is : eqb (get_or (read_call_of end s read lent).written 117 0) 1 ≡ told
  unfolding read_of
  told_is =
      let taken = ((reader_done (receiver_at end) s).0 read_met.2).0 in
      let back : eqb (get_or (reading_octets (taken_of s) told ++ []) 117 0) 1 ≡ told = rw taken at (reading_told (receiver_at end) s told []) in
      ap (λ (w : List ℕ). eqb (get_or w 117 0) 1) (read_is ∙ sym (append-nil (reading_octets (taken_of s) told))) ∙ back

  module _ (o : Octets s) where
    fields_are : fields_from_of (reading_octets (taken_of s) told) ≡ (taken_of s).fields
    unfolding read_of
    fields_are =
        let taken = ((reader_done (receiver_at end) s).0 read_met.2).0 in
        let back : fields_from_of (reading_octets (taken_of s) told ++ []) ≡ (taken_of s).fields = rw taken at (reading_back (receiver_at end) s told [] o) in
        ap fields_from_of (sym (append-nil (reading_octets (taken_of s) told))) ∙ back

    read_length : length (fields_octets (taken_of s).fields) ≡ 109
    read_length = length_fields (taken_of s).fields (read_shaped s)

    module _ (room : ℕ) (st : standard s ≡ true) (fits : length s ≤ room) where
      -- under any key of 20 octets
      pub read_then_write : (key : List ℕ) → length key ≡ 20
          → write_call_of (read_call_of end s read lent).written (key_in (read_call_of end s read lent).written s) key room
          ≡ record { number = 0; written = digest_replaced key s }
      unfolding reading_octets place_laid
      read_then_write key twenty =
          let e = receiver_at end in
          let f = (taken_of s).fields in
          let k = (taken_of s).key in
          let w = reading_octets (taken_of s) told in
          let auth = take k.len (drop k.start s) in
          let held = key_held e s o ((reader_done e s).0 read_met.2).0 st in
          let start : be16 (part_at 109 2 w) ≡ k.start = ap be16 (place_start (fields_octets f) _ k.start k.len read_length) ∙ be16_two k.start held.0 in
          let len : be16 (part_at 111 2 w) ≡ k.len = ap be16 (place_length (fields_octets f) _ k.start k.len read_length) ∙ be16_two k.len held.1 in
          let same : key_in w s ≡ auth = ap (λ (n : ℕ). take n (drop (be16 (part_at 109 2 w)) s)) len ∙ ap (λ (n : ℕ). take k.len (drop n s)) start in
          let long : 109 ≤ length w =
          omega (arith, read_length, length-append (fields_octets f) (place_laid k ++ (place_laid (taken_of s).digest ++ (holds_octet_of told ∷ [])))) in
          let again = read-call e s read_met.2 o st key room twenty fits in
          ap (λ (x : List ℕ). write_call_of x (key_in x s) key room) read_is
          ∙ ap (λ (x : List ℕ). write_call_of w x key room) same
          ∙ call_of_writer (fields_from_of w) (length w) auth key room (le-leb 109 (length w) long)
          ∙ ap (λ (g : Fields). record { number = answer_number_of (write_of g auth key room).answer; written = written_of g auth key room }) fields_are
          ∙ rw (again.0, again.1)

      -- octet for octet, where the reading told that the digest holds, under the same key
      pub read_then_same : get_or (read_call_of end s read lent).written 117 0 ≡ 1
          → write_call_of (read_call_of end s read lent).written (key_in (read_call_of end s read lent).written s) read room ≡ record { number = 0; written = s }
      read_then_same one =
          let twenty = eqb-true (length read) 20 (both (message_key_fits_of read) (leb 118 lent) read_met.1).0 in
          let right : told ≡ true = sym told_is ∙ ap (λ (n : ℕ). eqb n 1) one in
          let e = receiver_at end in
          let again = read-call e s read_met.2 o st read room twenty fits in
          let held = held_call e s read_met.2 o st read room twenty fits (holds_carries read s right) right in
          read_then_write read twenty ∙ ap (λ (w : List ℕ). record { number = 0; written = w }) (sym again.1 ∙ held)

      -- and under any key, where the code carries none
      pub read_then_plain : (key : List ℕ) → length key ≡ 20 → is_required_of (code_of s) 11 ≡ false
          → write_call_of (read_call_of end s read lent).written (key_in (read_call_of end s read lent).written s) key room ≡ record { number = 0; written = s }
      unfolding digest_replaced
      read_then_plain key twenty h =
          let plain : digest_replaced key s ≡ s = rw h refl in
          read_then_write key twenty ∙ ap (λ (w : List ℕ). record { number = 0; written = w }) plain

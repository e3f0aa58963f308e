-- What is written under a key is read back with a digest that holds under it; an accepted message in the standard order is written again with the
-- digest that a key gives, and, where its own holds under it, octet for octet.
use Prim.Native.Nat.{ℕ, ◌+◌, ◌-◌, ◌≤◌}
use mathlib.Core.Path.{◌≡◌, refl, sym, ap, ◌∙◌}
use mathlib.Core.Bool.{Bool, true, false, cond}
use mathlib.Core.List.{List, [], ◌∷◌, ◌++◌, append-nil, append_assoc}
use native.Mathlib.Omega.{arith}
use borrow.Author.Tests.{eqb-true}
use lib.ListN.{length, take, drop, length-append}
use lib.Seq.{sets, sets-eq, take_at, drop-append_seam}
use Rattle.digest_hmac.specs.Hmac.{hmac, filled}
use Rattle.digest_hmac.proofs.FillLaws.{length_hmac, holds_equal}
use Rattle.key_traffic.specs.Octets.{overlay}
use Rattle.questions.specs.Answer.{Answer, Done, Refused}
use Rattle.message_rules.specs.declared.fields.Fields.{Fields}
use Rattle.message_rules.specs.declared.fields.Place.{Place}
use Rattle.message_rules.specs.declared.fields.Reading.{Reading}
use Rattle.message_rules.specs.declared.fields.Receiver.{Receiver}
use Rattle.message_rules.specs.Attributes.{items, value_at}
use Rattle.message_rules.specs.Ranges.{is_required_of, fits}
use Rattle.message_rules.specs.Messages.{code_of, body_of, receiver_of, message_answer, reader_answer_of}
use Rattle.message_rules.specs.Limits.{fields_fit_of, auth_key_fits_of}
use Rattle.message_rules.specs.Fields.{fields_of}
use Rattle.message_rules.specs.Reading.{taken_of, reading_for, read_of}
use Rattle.message_rules.specs.Standard.{standard}
use Rattle.message_rules.specs.Writing.{message_of, no_digest_of}
use Rattle.message_rules.proofs.AttributesLaws.{Octets}
use Rattle.message_rules.proofs.FieldsFit.{Shaped, fit}
use Rattle.message_rules.proofs.MessageAnswers.{reader_done}
use Rattle.message_rules.proofs.TakenLaws.{taken, first_fits}
use Rattle.message_rules.proofs.ReadFits.{reader_fits, read_shaped}
use Rattle.message_rules.proofs.WrittenRead.{key_place, digest_place, written_read}
use Rattle.message_rules.proofs.ReadWritten.{read_written_digest, without_digest}
use Rattle.message_rules.proofs.KeyPlace.{key_length}
use Rattle.message_digest.specs.Digest.{covered_up_to_of, digest_holds_of, bare, signed_of, digest_filled}
use Rattle.message_digest.proofs.DigestLaws.{asked, front, written_is, signed_is, signed_right, front_taken, digest_taken}

-- ---- written, then read

-- All fields come back, and the places of the AUTH-Key and of the digest, whatever padding follows
pub signed_read : (f : Fields) (auth key padding : List ℕ) → Shaped f → fields_fit_of f ≡ true → auth_key_fits_of f (length auth) ≡ true
    → read_of (receiver_of f.code) (signed_of f auth key ++ padding)
    ≡ record { answer = Done; fields = f; key = key_place f auth; digest = digest_place f auth (hmac key (bare f auth)) }
unfolding signed_of
signed_read f auth key padding s e k = written_read f auth (hmac key (bare f auth)) padding s e k (length_hmac key (bare f auth))

-- The digest holds under the key, at the place that the reading gives
pub signed_holds : (f : Fields) (auth key padding : List ℕ) → Shaped f → fields_fit_of f ≡ true → auth_key_fits_of f (length auth) ≡ true → is_required_of f.code 11 ≡ true
    → digest_holds_of key (read_of (receiver_of f.code) (signed_of f auth key ++ padding)).digest (signed_of f auth key ++ padding) ≡ true
unfolding signed_of
signed_holds f auth key padding s e k h =
    let t = fit f auth e k in
    let place : (read_of (receiver_of f.code) (signed_of f auth key ++ padding)).digest ≡ record { start = length (signed_of f auth key) - 20; len = 20 } =
    ap (λ (r : Reading). r.digest) (signed_read f auth key padding s e k) ∙ rw h refl in
    rw place (signed_right f auth t.low t.high h key padding)

-- Where the code carries no digest, the key makes no difference
pub without_signed : (f : Fields) (auth key : List ℕ) → 4 ≤ f.code → f.code ≤ 12 → is_required_of f.code 11 ≡ false → message_of f auth no_digest_of ≡ signed_of f auth key
unfolding signed_of
without_signed f auth key low high h = without_digest f auth no_digest_of (hmac key (bare f auth)) low high h

-- The digest makes no difference to the length
pub signed_length : (f : Fields) (auth key : List ℕ) → 4 ≤ f.code → f.code ≤ 12 → length (signed_of f auth key) ≡ length (message_of f auth no_digest_of)
signed_length f auth key low high = go (is_required_of f.code 11) refl
  where
    go : (b : Bool) → is_required_of f.code 11 ≡ b → length (signed_of f auth key) ≡ length (message_of f auth no_digest_of)
    go true h =
        let p = front f auth low high h in
        omega (
          arith,
          ap length (signed_is f auth low high h key),
          length-append p (11 ∷ 0 ∷ 20 ∷ hmac key p),
          length_hmac key p,
          ap length (written_is f auth low high h no_digest_of refl),
          length-append p (11 ∷ 0 ∷ 20 ∷ no_digest_of),
        )
    go false h = ap length (sym (without_signed f auth key low high h))

-- ---- filled in: the message with zeros stands at the front of a slice, and the digest is stored over them
fill_octets : (p digest rest : List ℕ) → length digest ≡ 20
    → sets ((p ++ (11 ∷ 0 ∷ 20 ∷ no_digest_of)) ++ rest) (length p + 3) digest ≡ (p ++ (11 ∷ 0 ∷ 20 ∷ digest)) ++ rest
fill_octets p digest rest n =
    let h = p ++ (11 ∷ 0 ∷ 20 ∷ []) in
    let k : length h ≡ length p + 3 = length-append p (11 ∷ 0 ∷ 20 ∷ []) in
    let whole : (p ++ (11 ∷ 0 ∷ 20 ∷ no_digest_of)) ++ rest ≡ h ++ (no_digest_of ++ rest) = simp append_assoc in
    let room : length p + 3 + length digest ≤ length (h ++ (no_digest_of ++ rest)) =
    omega (arith, n, k, length-append h (no_digest_of ++ rest), length-append no_digest_of rest) in
    let tail : drop (length p + 3 + length digest) (h ++ (no_digest_of ++ rest)) ≡ rest =
    let e : length p + 3 + length digest ≡ length (h ++ no_digest_of) = omega (arith, n, k, length-append h no_digest_of) in
    rw (e, ← append_assoc h no_digest_of rest) (drop-append_seam (h ++ no_digest_of) rest) in
    let back : h ++ digest ++ rest ≡ (p ++ (11 ∷ 0 ∷ 20 ∷ digest)) ++ rest = simp append_assoc in
    rw (whole, sets-eq digest (h ++ (no_digest_of ++ rest)) (length p + 3) room, take_at h (no_digest_of ++ rest) (length p + 3) k, tail) back

pub signed_filled : (f : Fields) (auth key lent : List ℕ) → 4 ≤ f.code → f.code ≤ 12 → is_required_of f.code 11 ≡ true
    → filled (overlay lent (message_of f auth no_digest_of)) (length (message_of f auth no_digest_of) - 23) key (length (message_of f auth no_digest_of) - 20)
    ≡ overlay lent (signed_of f auth key)
unfolding filled
signed_filled f auth key lent low high h =
    let p = front f auth low high h in
    let d = hmac key p in
    let n = length_hmac key p in
    let zeros = written_is f auth low high h no_digest_of refl in
    let z = length-append p (11 ∷ 0 ∷ 20 ∷ no_digest_of) in
    let at : length (message_of f auth no_digest_of) - 20 ≡ length p + 3 = omega (arith, ap length zeros, z) in
    let up : length (message_of f auth no_digest_of) - 23 ≡ length p = omega (arith, ap length zeros, z) in
    let long : length (signed_of f auth key) ≡ length (message_of f auth no_digest_of) =
    omega (arith, ap length zeros, z, ap length (signed_is f auth low high h key), length-append p (11 ∷ 0 ∷ 20 ∷ d), n) in
    let rest = drop (length (message_of f auth no_digest_of)) lent in
    let front' : take (length p) (message_of f auth no_digest_of ++ rest) ≡ p =
    ap (λ (m : List ℕ). take (length p) (m ++ rest)) zeros ∙ front_taken p no_digest_of rest refl in
    rw (at, up, front', long)
    (ap (λ (m : List ℕ). sets (m ++ rest) (length p + 3) d) zeros ∙ fill_octets p d rest n ∙ ap (λ (m : List ℕ). m ++ rest) (sym (signed_is f auth low high h key)))

-- So whatever the code: where it carries no digest, the octets in its place make no difference
pub stored_signed : (f : Fields) (auth key lent : List ℕ) → 4 ≤ f.code → f.code ≤ 12
    → digest_filled f.code key (length (message_of f auth no_digest_of)) (overlay lent (message_of f auth no_digest_of)) ≡ overlay lent (signed_of f auth key)
unfolding digest_filled
stored_signed f auth key lent low high = go (is_required_of f.code 11) refl
  where
    m : List ℕ
    m = message_of f auth no_digest_of

    go : (b : Bool) → is_required_of f.code 11 ≡ b
        → cond b (filled (overlay lent m) (length m - 23) key (length m - 20)) (overlay lent m) ≡ overlay lent (signed_of f auth key)
    go true h = signed_filled f auth key lent low high h
    go false h = ap (overlay lent) (without_signed f auth key low high h)

-- ---- read, then written
answered : (a : Answer) (s : List ℕ) → (reading_for a s).answer ≡ a
unfolding taken_of
answered Done s = refl
answered (Refused r) s = refl

-- the octets before a digest of 20, and those before its attribute
cut_20 : (p digest : List ℕ) → length digest ≡ 20 → take (length (p ++ (11 ∷ 0 ∷ 20 ∷ digest)) - 20) (p ++ (11 ∷ 0 ∷ 20 ∷ digest)) ≡ p ++ (11 ∷ 0 ∷ 20 ∷ [])
cut_20 p digest n =
    let h = p ++ (11 ∷ 0 ∷ 20 ∷ []) in
    let e : p ++ (11 ∷ 0 ∷ 20 ∷ digest) ≡ h ++ digest = simp append_assoc in
    rw e (take_at h digest (length (h ++ digest) - 20) (omega (arith, length-append h digest, n)))

cut_23 : (p digest : List ℕ) → length digest ≡ 20 → take (length (p ++ (11 ∷ 0 ∷ 20 ∷ digest)) - 23) (p ++ (11 ∷ 0 ∷ 20 ∷ digest)) ≡ p
cut_23 p digest n = take_at p (11 ∷ 0 ∷ 20 ∷ digest) (length (p ++ (11 ∷ 0 ∷ 20 ∷ digest)) - 23) (omega (arith, length-append p (11 ∷ 0 ∷ 20 ∷ digest), n))

module _ (e : Receiver) (s : List ℕ) (o : Octets s) (d : reader_answer_of e s ≡ Done) (st : standard s ≡ true) where
  -- the fields and the AUTH-Key that were read, and the digest
  abbrev own : Fields
  own = (taken_of s).fields

  abbrev auth : List ℕ
  auth = take (taken_of s).key.len (drop (taken_of s).key.start s)

  abbrev digest : List ℕ
  digest = value_at 11 0 (items (body_of s))

  answer : message_answer e s ≡ Done
  answer = ((reader_done e s).0 d).0

  code_is : own.code ≡ code_of s
  unfolding taken_of fields_of
  code_is = refl

  low : 4 ≤ own.code
  low = rw code_is (taken e s answer).low

  high : own.code ≤ 12
  high = rw code_is (taken e s answer).high

  again : message_of own auth digest ≡ s
  again = read_written_digest e s o answer st

  -- A message that carries no digest is written again as it was
  pub read_plain : (key : List ℕ) → is_required_of own.code 11 ≡ false → signed_of own auth key ≡ s
  unfolding signed_of
  read_plain key h = without_digest own auth (hmac key (bare own auth)) digest low high h ∙ again

  module _ (h : is_required_of own.code 11 ≡ true) where
    wide : length digest ≡ 20
    unfolding fits
    wide = eqb-true (length digest) 20 (first_fits (code_of s) (items (body_of s)) (taken e s answer) 11 refl refl (sym (ap (λ (c : ℕ). is_required_of c 11) code_is) ∙ h))

    abbrev before : List ℕ
    before = front own auth low high h

    s_is : s ≡ before ++ (11 ∷ 0 ∷ 20 ∷ digest)
    s_is = sym again ∙ written_is own auth low high h digest wide

    pub long_enough : 23 ≤ length s
    long_enough = omega (arith, ap length s_is, length-append before (11 ∷ 0 ∷ 20 ∷ digest), wide)

    -- Written again under a key, it has the digest that the key gives over the octets before the digest attribute
    pub read_signed : (key : List ℕ) → signed_of own auth key ≡ take (length s - 20) s ++ hmac key (take (length s - 23) s)
    read_signed key =
        let a = ap (λ (l : List ℕ). take (length l - 20) l) s_is ∙ cut_20 before digest wide in
        let b = ap (λ (l : List ℕ). take (length l - 23) l) s_is ∙ cut_23 before digest wide in
        let c : take (length s - 20) s ++ hmac key (take (length s - 23) s) ≡ (before ++ (11 ∷ 0 ∷ 20 ∷ [])) ++ hmac key before = rw (a, b) refl in
        let f : (before ++ (11 ∷ 0 ∷ 20 ∷ [])) ++ hmac key before ≡ before ++ (11 ∷ 0 ∷ 20 ∷ hmac key before) = simp append_assoc in
        signed_is own auth low high h key ∙ sym (c ∙ f)

    -- its digest stands at the end, where the reading says
    place_is : (taken_of s).digest ≡ record { start = length s - 20; len = 20 }
    unfolding read_of
    place_is =
        let q = reader_fits e s d in
        let n : auth_key_fits_of own (length auth) ≡ true = ap (auth_key_fits_of own) (key_length e s o answer st) ∙ q.1 in
        let whole : message_of own auth digest ++ [] ≡ s = append-nil (message_of own auth digest) ∙ again in
        let r : read_of (receiver_of own.code) s ≡ record { answer = Done; fields = own; key = key_place own auth; digest = digest_place own auth digest } =
        ap (read_of (receiver_of own.code)) (sym whole) ∙ written_read own auth digest [] (read_shaped s) q.0 n wide in
        let done : message_answer (receiver_of own.code) s ≡ Done =
        sym (answered (message_answer (receiver_of own.code) s) s) ∙ ap (λ (x : Reading). x.answer) r in
        let there : (taken_of s).digest ≡ digest_place own auth digest =
        ap (λ (a : Answer). (reading_for a s).digest) (sym done) ∙ ap (λ (x : Reading). x.digest) r in
        there ∙ rw (h, again) refl

    -- Where its digest holds under the key, it is written again octet for octet
    pub held_again : (key : List ℕ) → digest_holds_of key (taken_of s).digest s ≡ true → signed_of own auth key ≡ s
    held_again key holds' =
        let p : Place = record { start = length s - 20; len = 20 } in
        let right : digest_holds_of key p s ≡ true = ap (λ (x : Place). digest_holds_of key x s) (sym place_is) ∙ holds' in
        let equal = holds_equal s (covered_up_to_of p) key p.start (asked key p s refl ∙ right) in
        let at : length s - 20 ≡ length before + 3 = omega (arith, ap length s_is, length-append before (11 ∷ 0 ∷ 20 ∷ digest), wide) in
        let up : length before + 3 - 3 ≡ length before = omega arith in
        let whole : s ≡ (before ++ (11 ∷ 0 ∷ 20 ∷ digest)) ++ [] = s_is ∙ sym (append-nil (before ++ (11 ∷ 0 ∷ 20 ∷ digest))) in
        let covers : take (length s - 20 - 3) s ≡ before =
        ap (λ (k : ℕ). take (k - 3) s) at ∙ ap (λ (k : ℕ). take k s) up ∙ ap (take (length before)) whole ∙ front_taken before digest [] wide in
        let stands : take 20 (drop (length s - 20) s) ≡ digest =
        ap (λ (k : ℕ). take 20 (drop k s)) at ∙ ap (λ (l : List ℕ). take 20 (drop (length before + 3) l)) whole ∙ digest_taken before digest [] wide in
        let same : hmac key before ≡ digest = ap (hmac key) (sym covers) ∙ equal ∙ stands in
        signed_is own auth low high h key ∙ ap (λ (x : List ℕ). before ++ (11 ∷ 0 ∷ 20 ∷ x)) same ∙ sym s_is

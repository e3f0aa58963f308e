-- What is written is read back: the fields, the AUTH-Key, its place and the digest's, for all nine codes and with padding behind.
use Prim.Native.Nat.{ℕ, ◌+◌, ◌-◌, ◌≤◌}
use mathlib.Core.Path.{◌≡◌, refl, sym, ap, ◌∙◌}
use mathlib.Core.List.{List, [], ◌∷◌, ◌++◌}
use mathlib.Core.Bool.{Bool, true, false, cond}
use lib.ListN.{length, get_or, take, drop, length-append}
use lib.Seq.{take_at}
use native.Mathlib.Omega.{arith}
use borrow.Author.Tests.{le-leb}
use Rattle.questions.specs.Answer.{Done}
use Rattle.message_rules.specs.declared.fields.Fields.{Fields}
use Rattle.message_rules.specs.declared.fields.Place.{Place}
use Rattle.message_rules.specs.Attributes.{items, values, count_of, value_at, start_from, two, octets}
use Rattle.message_rules.specs.Ranges.{required_of, among, is_required_of, good, sound}
use Rattle.message_rules.specs.Messages.{length_of, body_of, is_whole, receives, receiver_of, message_answer, reader_answer_of}
use Rattle.message_rules.specs.Reading.{no_place_of, place_of, taken_of, read_of}
use Rattle.message_rules.specs.Limits.{fields_fit_of, auth_key_fits_of}
use Rattle.message_rules.specs.Writing.{items_of_type, items_of_types, items_of, message, message_of}
use Rattle.message_rules.proofs.AttributesLaws.{items_octets}
use Rattle.message_rules.proofs.HoldsLaws.{never, length_attr, all_whole, start_value}
use Rattle.message_rules.proofs.MessageAnswers.{answer_done, reader_done}
use Rattle.message_rules.proofs.CodesLaws.{by_code}
use Rattle.message_rules.proofs.FieldsFit.{Shaped, Fit, fit}
use Rattle.message_rules.proofs.WrittenBody.{most_octets_of, short, all_good, body_most, body_fits, all_complete}
use Rattle.message_rules.proofs.WrittenFields.{fields_back}
use Rattle.message_rules.proofs.ItemsWritten.{written_values}

-- The AUTH-Key stands behind the header and its attribute's three octets; the digest stands at the end
abbrev pub key_place : Fields → List ℕ → Place
key_place f key = cond (is_required_of f.code 7) (record { start = 7; len = length key }) no_place_of

abbrev pub digest_place : Fields → List ℕ → List ℕ → Place
digest_place f key digest = cond (is_required_of f.code 11) (record { start = length (message_of f key digest) - 20; len = 20 }) no_place_of

-- a message's header, whatever follows it
module _ (code identifier : ℕ) (body padding : List ℕ) (h : length body ≤ 1490) where
  pub length_back : length_of (message code identifier body ++ padding) ≡ length body
  unfolding length_of message two
  length_back = omega arith

  body_back : body_of (message code identifier body ++ padding) ≡ body
  unfolding body_of message two
  body_back = take_at body padding (length_of (message code identifier body ++ padding)) (sym length_back)

  pub length_message : length (message code identifier body ++ padding) ≡ 4 + length body + length padding
  unfolding message two
  length_message = omega (arith, length-append body padding)

  whole_back : is_whole (message code identifier body ++ padding) ≡ true
  unfolding is_whole
  whole_back =
      rw (
        length_message,
        length_back,
        le-leb 4 (4 + length body + length padding) (omega arith),
        le-leb (length body) 1490 h,
        le-leb (4 + length body) (4 + length body + length padding) (omega arith),
      )

module _ (f : Fields) (key digest : List ℕ) (s : Shaped f) (t : Fit f key) (n : length digest ≡ 20) where
  -- ---- the places
  start_7 : is_required_of f.code 7 ≡ true → start_from 4 7 (items_of f key digest) ≡ 7
  unfolding items_of items_of_types items_of_type required_of is_required_of among start_from
  start_7 =
      by_code (λ c. is_required_of c 7 ≡ true → start_from 4 7 (items_of_types f key digest (required_of c)) ≡ 7)
      never (λ h. refl) never never never never never never never
      f.code t.low t.high

  start_11 : is_required_of f.code 11 ≡ true → start_from 4 11 (items_of f key digest) + 20 ≡ 4 + length (octets (items_of f key digest))
  unfolding items_of items_of_types items_of_type required_of is_required_of among start_from octets
  start_11 =
      by_code
      (λ c. is_required_of c 11 ≡ true → start_from 4 11 (items_of_types f key digest (required_of c)) + 20 ≡ 4 + length (octets (items_of_types f key digest (required_of c))))
      never never never
      (λ h. simp (length-append, length_attr) (omega arith))
      (λ h. simp (length-append, length_attr) (omega arith))
      (λ h. simp (length-append, length_attr) (omega arith))
      never
      (λ h. simp (length-append, length_attr) (omega arith))
      never
      f.code t.low t.high

  length_written : length (message_of f key digest) ≡ 4 + length (octets (items_of f key digest))
  unfolding message_of message two
  length_written = omega arith

  key_back : place_of f.code 7 (items_of f key digest) ≡ key_place f key
  unfolding place_of value_at values items_of_type
  key_back = go (is_required_of f.code 7) refl
    where
      go : (b : Bool) → is_required_of f.code 7 ≡ b
          → cond b (record { start = start_from 4 7 (items_of f key digest); len = length (get_or (values 7 (items_of f key digest)) 0 []) }) no_place_of
          ≡ cond b (record { start = 7; len = length key }) no_place_of
      go true h = rw (start_7 h, written_values f key digest t.low t.high 7 h)
      go false h = refl

  digest_back : place_of f.code 11 (items_of f key digest) ≡ digest_place f key digest
  unfolding place_of value_at values items_of_type
  digest_back = go (is_required_of f.code 11) refl
    where
      go : (b : Bool) → is_required_of f.code 11 ≡ b
          → cond b (record { start = start_from 4 11 (items_of f key digest); len = length (get_or (values 11 (items_of f key digest)) 0 []) }) no_place_of
          ≡ cond b (record { start = length (message_of f key digest) - 20; len = 20 }) no_place_of
      go true h =
          let q : start_from 4 11 (items_of f key digest) ≡ length (message_of f key digest) - 20 = omega (arith, start_11 h, length_written) in
          rw (written_values f key digest t.low t.high 11 h, n, q)
      go false h = refl

  -- ---- the reading
  module _ (padding : List ℕ) where
    body_is : body_of (message_of f key digest ++ padding) ≡ octets (items_of f key digest)
    unfolding message_of
    body_is = body_back f.code f.identifier (octets (items_of f key digest)) padding (body_fits f key digest s t n)

    pub items_are : items (body_of (message_of f key digest ++ padding)) ≡ items_of f key digest
    items_are = ap items body_is ∙ items_octets (items_of f key digest) (short f key digest s t n)

    code_is : get_or (message_of f key digest ++ padding) 0 0 ≡ f.code
    unfolding message_of message
    code_is = refl

    identifier_is : get_or (message_of f key digest ++ padding) 1 0 ≡ f.identifier
    unfolding message_of message
    identifier_is = refl

    whole : is_whole (message_of f key digest ++ padding) ≡ true
    unfolding message_of
    whole = whole_back f.code f.identifier (octets (items_of f key digest)) padding (body_fits f key digest s t n)

    received : receives (receiver_of f.code) f.code ≡ true
    unfolding receives receiver_of
    received = by_code (λ c. receives (receiver_of c) c ≡ true) refl refl refl refl refl refl refl refl refl f.code t.low t.high

    taken : message_answer (receiver_of f.code) (message_of f key digest ++ padding) ≡ Done
    unfolding sound
    taken =
        (answer_done (receiver_of f.code) (message_of f key digest ++ padding)
        ).1 (whole, rw code_is received, rw (code_is, items_are) (all_good f key digest s t n), rw (code_is, items_are) (all_complete f key digest s t n))

    back : read_of (receiver_of f.code) (message_of f key digest ++ padding)
        ≡ record { answer = Done; fields = f; key = key_place f key; digest = digest_place f key digest }
    unfolding read_of taken_of
    back = rw (taken, code_is, identifier_is, items_are, fields_back f key digest s t, key_back, digest_back)

    -- the reader by itself takes it too
    pub reader_takes : reader_answer_of (receiver_of f.code) (message_of f key digest ++ padding) ≡ Done
    reader_takes = (reader_done (receiver_of f.code) (message_of f key digest ++ padding)).1 (taken, rw (code_is, identifier_is) t.required)

    key_taken : (taken_of (message_of f key digest ++ padding)).key ≡ key_place f key
    unfolding taken_of
    key_taken = rw (code_is, items_are, key_back)

    -- the octets behind the AUTH-Key's head are the key
    key-octets : is_required_of f.code 7 ≡ true → take (length key) (drop 7 (message_of f key digest ++ padding)) ≡ key
    unfolding message_of message two value_at values items_of_type count_of
    key-octets h =
        let l = items_of f key digest in
        let p = f.code ∷ f.identifier ∷ two (length (octets l)) in
        let v : values 7 l ≡ key ∷ [] = written_values f key digest t.low t.high 7 h in
        let found : take (length (value_at 7 0 l)) (drop (start_from 4 7 l) (p ++ (octets l ++ padding))) ≡ value_at 7 0 l =
        start_value 7 l 4 p padding refl (all_whole (good f.code) l (all_good f key digest s t n)) (omega (arith, ap length v)) in
        rw (start_7 h, v) at found

-- What is written is read back, for all nine codes, whatever padding follows
pub written_read : (f : Fields) (key digest padding : List ℕ)
    → Shaped f → fields_fit_of f ≡ true → auth_key_fits_of f (length key) ≡ true → length digest ≡ 20
    → read_of (receiver_of f.code) (message_of f key digest ++ padding)
    ≡ record { answer = Done; fields = f; key = key_place f key; digest = digest_place f key digest }
written_read f key digest padding s e k n = back f key digest s (fit f key e k) n padding

-- The AUTH-Key, too: its octets stand behind seven others ..
pub key_read : (f : Fields) (key digest padding : List ℕ)
    → Shaped f → fields_fit_of f ≡ true → auth_key_fits_of f (length key) ≡ true → length digest ≡ 20 → is_required_of f.code 7 ≡ true
    → take (length key) (drop 7 (message_of f key digest ++ padding)) ≡ key
key_read f key digest padding s e k n h = key-octets f key digest s (fit f key e k) n padding h

-- .. which is the place that the reading tells
pub key_read_place : (f : Fields) (key digest padding : List ℕ)
    → Shaped f → fields_fit_of f ≡ true → auth_key_fits_of f (length key) ≡ true → length digest ≡ 20 → is_required_of f.code 7 ≡ true
    → take (taken_of (message_of f key digest ++ padding)).key.len
    (drop (taken_of (message_of f key digest ++ padding)).key.start (message_of f key digest ++ padding))
    ≡ key
key_read_place f key digest padding s e k n h =
    rw (key_taken f key digest s (fit f key e k) n padding, h) (key_read f key digest padding s e k n h)

-- How long it is at the most
pub written_lengths : (f : Fields) (key digest : List ℕ)
    → Shaped f → fields_fit_of f ≡ true → auth_key_fits_of f (length key) ≡ true → length digest ≡ 20
    → (4 ≤ length (message_of f key digest)) × (length (message_of f key digest) ≤ most_octets_of f.code)
written_lengths f key digest s e k n =
    let t = fit f key e k in
    let l = length_written f key digest s t n in
    (omega arith, omega (arith, body_most f key digest s t n))

pub written_12 : (f : Fields) (key digest : List ℕ)
    → Shaped f → fields_fit_of f ≡ true → auth_key_fits_of f (length key) ≡ true → length digest ≡ 20 → f.code ≡ 12
    → length (message_of f key digest) ≡ 4
written_12 f key digest s e k n c =
    let l = written_lengths f key digest s e k n in
    let most : most_octets_of f.code ≡ 4 = ap most_octets_of c in
    omega arith

-- The writer takes the head-end's answers: their fields are within its limits, and how many octets each has.
use mathlib.Core.Path.{◌≡◌, refl, sym, ◌∙◌}
use mathlib.Core.Bool.{Bool, true, false, cond, ◌&&◌, ◌||◌}
use mathlib.Core.List.{List, [], ◌∷◌, append-nil}
use Prim.Native.Nat.{ℕ, zero, suc, ◌+◌, ◌-◌, ◌*◌, ◌%◌, ◌≤◌, ◌<◌}
use native.Mathlib.Omega.{arith}
use lib.Dec.{leb, ltb, eqb}
use lib.ListN.{length, get_or, take, length-append, length-take}
use lib.Seq.{length-take-le}
use borrow.Author.Tests.{le-leb, lt-leb, lt-ltb, ltb-true, ltb-false, ne_eqb}
use Rattle.key_traffic.specs.declared.traffic.TrafficKey.{TrafficKey}
use Rattle.key_traffic.specs.Octets.{all_zero, zero_past_of}
use Rattle.key_traffic.specs.Suites.{width_of, suite_known_of, width_known_of}
use Rattle.key_traffic.specs.Traffic.{key_fits_of, follows}
use Rattle.questions.proofs.TestLaws.{both}
use Rattle.message_rules.specs.declared.fields.Descriptor.{Descriptor}
use Rattle.message_rules.specs.declared.fields.Fields.{Fields}
use Rattle.message_rules.specs.declared.fields.Params.{Params}
use Rattle.message_rules.specs.Attributes.{two, four, attr_octets, octets}
use Rattle.message_rules.specs.Ranges.{required_of, among, is_required_of}
use Rattle.message_rules.specs.Messages.{is_none, different}
use Rattle.message_rules.specs.Fields.{no_descriptor_of}
use Rattle.message_rules.specs.Limits.{carried_or_of, key_octets_fit_of, key_octets_zero_of, params_fit_of, params_zero_of, pair_fit_of, descriptor_fit_of, descriptor_zero_of, place_fit_of, saids_of, descriptors_fit_of, descriptors_zero_of, head_fits_of, fields_fit_of}
use Rattle.message_rules.specs.Writing.{params_items_of, descriptors_items, items_of_type, items_of_types, items_of, message, message_of, no_digest_of}
use Rattle.message_rules.proofs.HoldsLaws.{length_attr}
use Rattle.message_rules.proofs.DescriptorsWritten.{length_descriptors}
use Rattle.key_association.specs.declared.listing.Listing.{Listing}
use Rattle.key_association.specs.declared.record.Assoc.{Assoc}
use Rattle.key_association.proofs.RecordLaws.{InLimits}
use Rattle.headend_state.specs.declared.state.AuthKeys.{AuthKeys}
use Rattle.headend_state.specs.Authorization.{life_left}
use Rattle.headend_state.specs.Entries.{said_at}
use Rattle.headend_answers.specs.AnswerFields.{reject, invalid, key_reject, descriptor_at_of, reply_answer_of, params_at, key_reply_of}
use Rattle.headend_state.proofs.PlaceLaws.{by_four}
use Rattle.headend_limits.proofs.ListingLaws.{ListingIn}

-- ---- answers with an error
pub reject_fits : (i e : ℕ) → fields_fit_of (reject i e) ≡ true
unfolding fields_fit_of head_fits_of is_required_of required_of among descriptors_zero_of place_fit_of descriptor_zero_of params_zero_of key_octets_zero_of zero_past_of all_zero
reject_fits i e = refl

pub invalid_fits : (i e : ℕ) → fields_fit_of (invalid i e) ≡ true
unfolding fields_fit_of head_fits_of is_required_of required_of among descriptors_zero_of place_fit_of descriptor_zero_of params_zero_of key_octets_zero_of zero_past_of all_zero
invalid_fits i e = refl

pub key_reject_fits : (f : Fields) (e : ℕ) → f.ak.0 ≤ 15 → f.said ≤ 16383 → fields_fit_of (key_reject f e) ≡ true
unfolding fields_fit_of head_fits_of is_required_of required_of among descriptors_zero_of place_fit_of descriptor_zero_of params_zero_of key_octets_zero_of zero_past_of all_zero
key_reject_fits f e low small = simp (le-leb f.ak.0 15 low, le-leb f.said 16383 small)

pub reject_length : (i e : ℕ) (key : List ℕ) → length (message_of (reject i e) key no_digest_of) ≡ 8
unfolding message_of message items_of items_of_types items_of_type required_of octets attr_octets two
reject_length i e key = refl

pub invalid_length : (i e : ℕ) (key : List ℕ) → length (message_of (invalid i e) key no_digest_of) ≡ 8
unfolding message_of message items_of items_of_types items_of_type required_of octets attr_octets two
invalid_length i e key = refl

pub key_reject_length : (f : Fields) (e : ℕ) (key : List ℕ) → length (message_of (key_reject f e) key no_digest_of) ≡ 40
unfolding message_of message items_of items_of_types items_of_type required_of octets attr_octets two
key_reject_length f e key = refl

-- ---- an Authorization Reply

-- descriptors whose SAIDs differ, as the reader asks it
none_in : (x n : ℕ) (ds : List Descriptor) → ((j : ℕ) → j < n → x ≡ (get_or ds j no_descriptor_of).said → ⊥) → is_none x (saids_of (take n ds)) ≡ true
unfolding is_none saids_of
none_in x zero ds a = refl
none_in x (suc n) [] a = refl
none_in x (suc n) (d ∷ ds) a = rw (ne_eqb x d.said (a 0 (omega arith))) (none_in x n ds (λ j h. a (suc j) (omega arith)))

pub saids_different : (n : ℕ) (ds : List Descriptor)
    → ((i j : ℕ) → i < j → j < n → (get_or ds i no_descriptor_of).said ≡ (get_or ds j no_descriptor_of).said → ⊥)
    → different (saids_of (take n ds)) ≡ true
unfolding different saids_of
saids_different zero ds a = refl
saids_different (suc n) [] a = refl
saids_different (suc n) (d ∷ ds) a =
    rw (none_in d.said n ds (λ j h. a 0 (suc j) (omega arith) (omega arith)))
    (saids_different n ds (λ i j less h. a (suc i) (suc j) (omega arith) (omega arith)))

module _ (l : Listing) (p : ListingIn l) where
  abbrev four_of : List Descriptor
  four_of = descriptor_at_of l 0 ∷ descriptor_at_of l 1 ∷ descriptor_at_of l 2 ∷ descriptor_at_of l 3 ∷ []

  kind_most : (i : ℕ) → leb (cond (eqb i 0) 0 1) 2 ≡ true
  kind_most i = go (eqb i 0)
    where
      go : (b : Bool) → leb (cond b 0 1) 2 ≡ true
      go true = refl
      go false = refl

  at_fits : (i : ℕ) → carried_or_of (ltb i l.count) (descriptor_fit_of (descriptor_at_of l i)) (descriptor_zero_of (descriptor_at_of l i)) ≡ true
  unfolding descriptor_at_of descriptor_fit_of descriptor_zero_of
  at_fits i = go (ltb i l.count) refl
    where
      go : (b : Bool) → ltb i l.count ≡ b → carried_or_of b (descriptor_fit_of (descriptor_at_of l i)) (descriptor_zero_of (descriptor_at_of l i)) ≡ true
      go true e =
          let h : i < l.count = ltb-true i l.count e in
          rw (lt-leb l.count i h, le-leb (said_at l i) 16383 (p.said i h), kind_most i, p.suite i h)
      go false e = rw (le-leb l.count i (ltb-false i l.count e))

  said_there : (i : ℕ) → i < l.count → (get_or four_of i no_descriptor_of).said ≡ said_at l i
  unfolding descriptor_at_of
  said_there i h =
      by_four (λ j. j < l.count → (get_or four_of j no_descriptor_of).said ≡ said_at l j)
      (λ q. rw (lt-leb l.count 0 q)) (λ q. rw (lt-leb l.count 1 q)) (λ q. rw (lt-leb l.count 2 q)) (λ q. rw (lt-leb l.count 3 q))
      i (omega (arith, p.high)) h

  places_fit : (place_fit_of l.count 0 four_of ≡ true) × (place_fit_of l.count 1 four_of ≡ true) × (place_fit_of l.count 2 four_of ≡ true) × (place_fit_of l.count 3 four_of ≡ true)
  unfolding place_fit_of
  places_fit = (at_fits 0, at_fits 1, at_fits 2, at_fits 3)

  pub listed_descriptors : descriptors_fit_of l.count four_of ≡ true
  unfolding descriptors_fit_of
  listed_descriptors =
      rw (
        le-leb 1 l.count p.low,
        le-leb l.count 4 p.high,
        places_fit.0,
        places_fit.1,
        places_fit.2,
        places_fit.3,
      )
      (saids_different l.count four_of (λ i j less h q. p.differ i j less h (sym (said_there i (omega arith)) ∙ q ∙ said_there j h)))

pub reply_fits : (clock i : ℕ) (l : Listing) (k : AuthKeys) → ListingIn l → 1 ≤ life_left clock k.newer → life_left clock k.newer ≤ 12096000
    → fields_fit_of (reply_answer_of clock i l k) ≡ true
unfolding fields_fit_of head_fits_of is_required_of required_of among params_zero_of key_octets_zero_of zero_past_of all_zero
reply_fits clock i l k p low high =
    let small : (k.next.0 + 15) % 16 ≤ 15 = omega arith in
    simp (
      le-leb ((k.next.0 + 15) % 16) 15 small,
      le-leb 1 (life_left clock k.newer) low,
      le-leb (life_left clock k.newer) 12096000 high,
      listed_descriptors l p,
    )

pub reply_length : (clock i : ℕ) (l : Listing) (k : AuthKeys) (key : List ℕ) → l.count ≤ 4
    → length (message_of (reply_answer_of clock i l k) key no_digest_of) ≡ 4 + (3 + length key) + 7 + 4 + 17 * l.count
unfolding message_of message items_of items_of_types items_of_type required_of octets two four
reply_length clock i l k key few =
    let ds = descriptor_at_of l 0 ∷ descriptor_at_of l 1 ∷ descriptor_at_of l 2 ∷ descriptor_at_of l 3 ∷ [] in
    let d : length (octets (descriptors_items (take l.count ds))) ≡ length (take l.count ds) * 17 = length_descriptors (take l.count ds) in
    let n : length (take l.count ds) ≡ l.count = length-take-le l.count ds (omega arith) in
    simp (append-nil, length-append, length_attr) (omega arith)

pub reply_most : (clock i : ℕ) (l : Listing) (k : AuthKeys) (key : List ℕ) → l.count ≤ 4 → length key ≤ 256
    → length (message_of (reply_answer_of clock i l k) key no_digest_of) ≤ 342
reply_most clock i l k key few many = omega (arith, reply_length clock i l k key few)

-- ---- a Key Reply
pub width-known : (suite : ℕ) → suite_known_of suite ≡ true → width_known_of (width_of suite) ≡ true
unfolding width_of
width-known suite e = go (eqb suite 256) (eqb suite 768) e
  where
    go : (a b : Bool) → a || b ≡ true → width_known_of (cond a 8 (cond b 16 0)) ≡ true
    go true b h = refl
    go false true h = refl
    go false false h = h

pub width_most : (suite : ℕ) → width_of suite ≤ 16
unfolding width_of
width_most suite = go (eqb suite 256) (eqb suite 768)
  where
    go : (a b : Bool) → cond a 8 (cond b 16 0) ≤ 16
    go true b = omega arith
    go false true = omega arith
    go false false = omega arith

params_at_fits : (clock w : ℕ) (k : TrafficKey) → width_known_of w ≡ true → key_fits_of w k ≡ true → 1 ≤ life_left clock k.deadline
    → life_left clock k.deadline ≤ 604800 → params_fit_of (params_at clock w k) ≡ true
unfolding key_fits_of params_fit_of key_octets_fit_of
params_at_fits clock w k wide e low high =
    let e2 = both (leb k.number.0 15 && zero_past_of w k.tek) (zero_past_of w k.vector) e in
    let e1 = both (leb k.number.0 15) (zero_past_of w k.tek) e2.0 in
    rw (e1.0, le-leb 1 (life_left clock k.deadline) low, le-leb (life_left clock k.deadline) 604800 high, wide, e1.1, e2.1)

module _ (half clock : ℕ) (a : Assoc) (i : InLimits half clock a) (some : 1 ≤ half) (short : life_left clock a.newer.deadline ≤ 604800) where
  abbrev wide : ℕ
  wide = width_of a.suite

  pub pair_at_fits : pair_fit_of (params_at clock wide a.older) (params_at clock wide a.newer) ≡ true
  unfolding pair_fit_of follows
  pair_at_fits =
      let known : width_known_of wide ≡ true = width-known a.suite i.suite-known in
      let older = params_at_fits clock wide a.older known i.older_fits (omega (arith, i.ahead)) (omega (arith, short, i.paced)) in
      let newer = params_at_fits clock wide a.newer known i.newer_fits (omega (arith, i.ahead, i.paced)) short in
      let less : a.older.deadline - clock < a.newer.deadline - clock = omega (arith, i.ahead, i.paced) in
      rw (older, newer, i.next, lt-ltb (a.older.deadline - clock) (a.newer.deadline - clock) less)

  pub key_reply_fits : (f : Fields) → f.ak.0 ≤ 15 → f.said ≤ 16383 → fields_fit_of (key_reply_of clock a f) ≡ true
  unfolding fields_fit_of head_fits_of is_required_of required_of among descriptors_zero_of place_fit_of descriptor_zero_of
  key_reply_fits f low small = simp (le-leb f.ak.0 15 low, le-leb f.said 16383 small, pair_at_fits)

params_length : (p : Params) → length (octets (params_items_of p)) ≡ 3 + length (take p.tek.width p.tek.octets) + 7 + 4 + (3 + length (take p.vector.width p.vector.octets))
unfolding octets params_items_of four
params_length p = simp (length-append, length_attr) (omega arith)

module _ (clock : ℕ) (a : Assoc) (f : Fields) (key : List ℕ) where
  abbrev held : Params → Params → ℕ
  held p q = length (octets (params_items_of p)) + length (octets (params_items_of q))

  reply_by : length (message_of (key_reply_of clock a f) key no_digest_of)
      ≡ 4 + 4 + 5 + 6 + held (params_at clock (width_of a.suite) a.older) (params_at clock (width_of a.suite) a.newer) + 23
  unfolding message_of message items_of items_of_types items_of_type required_of octets two
  reply_by = simp (length-append, length_attr) (omega arith)

  pub key_reply_most : length (message_of (key_reply_of clock a f) key no_digest_of) ≤ 140
  key_reply_most =
      let w = width_of a.suite in
      let m : w ≤ 16 = width_most a.suite in
      omega (
        arith,
        reply_by,
        params_length (params_at clock w a.older),
        params_length (params_at clock w a.newer),
        length-take w a.older.tek,
        length-take w a.older.vector,
        length-take w a.newer.tek,
        length-take w a.newer.vector,
      )

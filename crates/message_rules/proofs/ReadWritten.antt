-- An accepted message in the standard order, written again from what was read of it with its own digest: the same octets; and where a digest stands.
use Prim.Native.Nat.{ℕ, ◌+◌, ◌*◌, ◌≤◌}
use mathlib.Core.Path.{◌≡◌, refl, sym, ap, ◌∙◌}
use mathlib.Core.List.{List, [], ◌∷◌, ◌++◌, append-nil, append_assoc}
use mathlib.Core.Bool.{true, false, ◌&&◌}
use lib.ListN.{length, get_or, take, drop, length-append, length-drop}
use lib.Seq.{take_all}
use lib.Dec.{eqb}
use native.Mathlib.Omega.{arith}
use borrow.Author.Tests.{eqb-true}
use Rattle.questions.proofs.TestLaws.{both}
use Rattle.questions.specs.Answer.{Done}
use Rattle.message_rules.specs.declared.fields.Fields.{Fields}
use Rattle.message_rules.specs.declared.fields.Receiver.{Receiver}
use Rattle.message_rules.specs.Attributes.{Item, attr, items, values, value_at, start_from, two, attr_octets, octets}
use Rattle.message_rules.specs.Ranges.{required_of, among, is_required_of, good}
use Rattle.message_rules.specs.Messages.{code_of, identifier_of, length_of, body_of, message_answer}
use Rattle.message_rules.specs.Fields.{fields_of}
use Rattle.message_rules.specs.Reading.{place_of, taken_of}
use Rattle.message_rules.specs.Standard.{ordered, insides_ordered_of, standard}
use Rattle.message_rules.specs.Writing.{params_items_of, items_of_type, items_of_types, items_of, message, message_of}
use Rattle.message_rules.proofs.AttributesLaws.{Octets, Whole, octets_take, octets_drop, octet_below, spell, octets_items}
use Rattle.message_rules.proofs.HoldsLaws.{never, octets_append, all_whole, start_value}
use Rattle.message_rules.proofs.CodesLaws.{by_code}
use Rattle.message_rules.proofs.PartsRead.{octet_items}
use Rattle.message_rules.proofs.TakenLaws.{taken, once}
use Rattle.message_rules.proofs.ItemsRead.{InOrder, items_again}

-- ---- the digest of a message that is written
module _ (f : Fields) (key : List ℕ) (low : 4 ≤ f.code) (high : f.code ≤ 12) where
  -- it is the last attribute
  ends : is_required_of f.code 11 ≡ true → (r : List Item) × ((digest : List ℕ) → items_of f key digest ≡ r ++ (attr 11 digest ∷ []))
  unfolding items_of items_of_types items_of_type required_of is_required_of among
  ends =
      by_code (λ c. is_required_of c 11 ≡ true → (r : List Item) × ((digest : List ℕ) → items_of_types f key digest (required_of c) ≡ r ++ (attr 11 digest ∷ [])))
      never never never
      (λ h. (attr 10 (f.ak.0 ∷ []) ∷ attr 12 (two f.said) ∷ [], λ d. refl))
      (λ h. (attr 10 (f.ak.0 ∷ []) ∷ attr 12 (two f.said) ∷ attr 13 (octets (params_items_of f.older)) ∷ attr 13 (octets (params_items_of f.newer)) ∷ [], λ d. refl))
      (λ h. (attr 10 (f.ak.0 ∷ []) ∷ attr 12 (two f.said) ∷ attr 16 (f.error ∷ []) ∷ [], λ d. refl))
      never
      (λ h. (attr 10 (f.ak.0 ∷ []) ∷ attr 12 (two f.said) ∷ attr 16 (f.error ∷ []) ∷ [], λ d. refl))
      never
      f.code low high

  -- or there is none
  ends_not : is_required_of f.code 11 ≡ false → (digest other : List ℕ) → items_of f key digest ≡ items_of f key other
  unfolding items_of items_of_types items_of_type required_of is_required_of among
  ends_not =
      by_code (λ c. is_required_of c 11 ≡ false → (digest other : List ℕ) → items_of_types f key digest (required_of c) ≡ items_of_types f key other (required_of c))
      (λ h d e. refl)
      (λ h d e. refl)
      (λ h d e. refl)
      (λ h. never (sym h))
      (λ h. never (sym h))
      (λ h. never (sym h))
      (λ h d e. refl)
      (λ h. never (sym h))
      (λ h d e. refl)
      f.code low high

-- what stands before a digest of 20 octets
abbrev before_digest_of : ℕ → ℕ → List Item → List ℕ
before_digest_of c i r = c ∷ i ∷ (two (length (octets r) + 23) ++ (octets r ++ (11 ∷ two 20)))

fronted : (c i : ℕ) (r : List Item) (digest : List ℕ) → length digest ≡ 20 → message c i (octets (r ++ (attr 11 digest ∷ []))) ≡ before_digest_of c i r ++ digest
unfolding message octets attr_octets two
fronted c i r digest n =
    let o : octets (r ++ (attr 11 digest ∷ [])) ≡ octets r ++ (11 ∷ (two 20 ++ digest)) =
    octets_append r (attr 11 digest ∷ []) ∙ rw (append-nil (two (length digest) ++ digest), n) in
    let m : length (octets (r ++ (attr 11 digest ∷ []))) ≡ length (octets r) + 23 =
    ap length o ∙ rw (length-append (octets r) (11 ∷ (two 20 ++ digest)), length-append (two 20) digest, n) refl in
    rw (m, o) (simp append_assoc)

-- Written with any digest of 20 octets, a message that carries one is the same octets, the head of the digest attribute, and the digest
pub before_digest : (f : Fields) (key : List ℕ) → 4 ≤ f.code → f.code ≤ 12 → is_required_of f.code 11 ≡ true
    → (p : List ℕ) × ((digest : List ℕ) → length digest ≡ 20 → message_of f key digest ≡ p ++ (11 ∷ 0 ∷ 20 ∷ digest))
unfolding message_of two
before_digest f key low high h =
    let r = ends f key low high h in
    let c = f.code in
    let i = f.identifier in (
      c ∷ i ∷ (two (length (octets r.0) + 23) ++ octets r.0),
      λ digest n. ap (λ (l : List Item). message c i (octets l)) (r.1 digest) ∙ fronted c i r.0 digest n ∙ simp append_assoc,
    )

-- Where it carries none, the digest makes no difference
pub without_digest : (f : Fields) (key digest other : List ℕ) → 4 ≤ f.code → f.code ≤ 12 → is_required_of f.code 11 ≡ false
    → message_of f key digest ≡ message_of f key other
unfolding message_of
without_digest f key digest other low high h =
    ap (λ (l : List Item). message f.code f.identifier (octets l)) (ends_not f key low high h digest other)

-- ---- a message without padding
four_octets : (s : List ℕ) → 4 ≤ length s → s ≡ get_or s 0 0 ∷ get_or s 1 0 ∷ get_or s 2 0 ∷ get_or s 3 0 ∷ drop 4 s
four_octets [] h = absurd (omega arith)
four_octets (a ∷ []) h = absurd (omega arith)
four_octets (a ∷ b ∷ []) h = absurd (omega arith)
four_octets (a ∷ b ∷ c ∷ []) h = absurd (omega arith)
four_octets (a ∷ b ∷ c ∷ d ∷ s) h = refl

module _ (s : List ℕ) (o : Octets s) (exact : length s ≡ 4 + length_of s) where
  body_all : body_of s ≡ drop 4 s
  unfolding body_of
  body_all = take_all (length_of s) (drop 4 s) (omega (arith, length-drop 4 s))

  header : s ≡ get_or s 0 0 ∷ get_or s 1 0 ∷ get_or s 2 0 ∷ get_or s 3 0 ∷ body_of s
  header = rw body_all (four_octets s (omega arith))

  message_again : message (code_of s) (identifier_of s) (body_of s) ≡ s
  unfolding message two length_of
  message_again =
      let n : length (body_of s) ≡ get_or s 2 0 * 256 + get_or s 3 0 = ap length body_all ∙ omega (arith, length-drop 4 s, exact) in
      let q = spell (get_or s 2 0) (get_or s 3 0) (length (body_of s)) (octet_below s 2 o) (octet_below s 3 o) n in
      rw (q.0, q.1) (sym header)

module _ (e : Receiver) (s : List ℕ) (o : Octets s) (d : message_answer e s ≡ Done) (st : standard s ≡ true) where
  abbrev l : List Item
  l = items (body_of s)

  abbrev digest : List ℕ
  digest = value_at 11 0 l

  abbrev key : List ℕ
  key = take (place_of (code_of s) 7 l).len (drop (place_of (code_of s) 7 l).start s)

  parts : (length s ≡ 4 + length_of s) × (ordered (code_of s) l ≡ true) × (insides_ordered_of 13 (values 13 l) ≡ true) × (insides_ordered_of 23 (values 23 l) ≡ true)
  unfolding standard
  parts =
      let a = eqb (length s) (4 + length_of s) in
      let b = ordered (code_of s) l in
      let c = insides_ordered_of 13 (values 13 l) in
      let e3 = both (a && b && c) (insides_ordered_of 23 (values 23 l)) st in
      let e2 = both (a && b) c e3.0 in
      let e1 = both a b e2.0 in
      (eqb-true (length s) (4 + length_of s) e1.0, e1.1, e2.1, e3.1)

  body_octets : Octets (body_of s)
  unfolding body_of
  body_octets = octets_take (length_of s) (drop 4 s) (octets_drop 4 s o)

  whole : Whole l
  whole = all_whole (good (code_of s)) l (taken e s d).sound

  body_again : octets l ≡ body_of s
  body_again = octets_items (body_of s) body_octets whole

  -- a value that is needed once is read where its place says
  pub value_is : (k : ℕ) → eqb k 13 ≡ false → eqb k 23 ≡ false → is_required_of (code_of s) k ≡ true
      → take (place_of (code_of s) k l).len (drop (place_of (code_of s) k l).start s) ≡ value_at k 0 l
  unfolding place_of
  value_is k a b h =
      let p = get_or s 0 0 ∷ get_or s 1 0 ∷ get_or s 2 0 ∷ get_or s 3 0 ∷ [] in
      let all : s ≡ p ++ (octets l ++ []) = header s o parts.0 ∙ ap (λ (b : List ℕ). p ++ b) (sym body_again ∙ sym (append-nil (octets l))) in
      let found : take (length (value_at k 0 l)) (drop (start_from 4 k l) (p ++ (octets l ++ []))) ≡ value_at k 0 l =
      start_value k l 4 p [] refl whole (omega (arith, once (code_of s) l (taken e s d) k a b h)) in
      rw h (ap (λ (m : List ℕ). take (length (value_at k 0 l)) (drop (start_from 4 k l) m)) all ∙ found)

  in_order : InOrder (code_of s) l key digest
  in_order =
      record {
        octet = octet_items (body_of s) body_octets;
        order = parts.1;
        params = parts.2;
        descriptors = parts.3;
        auth = value_is 7 refl refl;
        last = λ h. refl;
      }

  -- with its own digest it is written as it was
  again : message_of (fields_of (code_of s) (identifier_of s) l) key digest ≡ s
  unfolding message_of fields_of
  again =
      ap (λ (m : List Item). message (code_of s) (identifier_of s) (octets m)) (items_again (code_of s) (identifier_of s) l key digest (taken e s d) in_order)
      ∙ ap (message (code_of s) (identifier_of s)) body_again
      ∙ message_again s o parts.0

-- An accepted message in the standard order is written again from its fields and its AUTH-Key, with its own digest
pub read_written_digest : (e : Receiver) (s : List ℕ) → Octets s → message_answer e s ≡ Done → standard s ≡ true
    → message_of (taken_of s).fields (take (taken_of s).key.len (drop (taken_of s).key.start s)) (value_at 11 0 (items (body_of s))) ≡ s
unfolding taken_of
read_written_digest e s o d st = again e s o d st

-- The attributes of each code before the digest, then the digest's, and how long they are together.
use Prim.Native.Nat.{ℕ, ◌+◌, ◌≤◌}
use mathlib.Core.Path.{◌≡◌, refl, ap, ◌∙◌}
use mathlib.Core.Bool.{Bool, true, false, ◌&&◌, cond}
use mathlib.Core.List.{List, [], ◌∷◌, ◌++◌, append-nil}
use native.Mathlib.Omega.{arith}
use lib.Dec.{leb}
use lib.ListN.{length, take, length-append}
use borrow.Author.Tests.{leb-true}
use Rattle.questions.proofs.TestLaws.{both}
use Rattle.message_rules.specs.declared.fields.Fields.{Fields}
use Rattle.message_rules.specs.Attributes.{Item, attr, octets, two}
use Rattle.message_rules.specs.Ranges.{required_of, is_required_of, among}
use Rattle.message_rules.specs.Limits.{auth_key_fits_of}
use Rattle.message_rules.specs.Writing.{items_of, items_of_types, items_of_type, params_items_of, descriptors_items}
use Rattle.message_parts.specs.Parts.{params_item, named_items, grant_items, before_digest_of, front_items, digest_items, BodyLength}
use Rattle.message_rules.proofs.AttributesLaws.{length_two, length_four}
use Rattle.message_rules.proofs.HoldsLaws.{octets_append}
use Rattle.message_rules.proofs.CodesLaws.{by_code}
use Rattle.message_parts.proofs.PartLaws.{length_items, length_none}

-- the AUTH-Key's length, where the code carries one
pub key_short : (f : Fields) (n : ℕ) → f.code ≡ 5 → auth_key_fits_of f n ≡ true → n ≤ 256
unfolding auth_key_fits_of is_required_of required_of among
key_short f n e h =
    let g : (leb 1 n && leb n 256) ≡ true = rw e at h in
    leb-true n 256 (both (leb 1 n) (leb n 256) g).1

-- ---- the last of the codes
above : (k : ℕ) {n : ℕ} → k ≤ n → (n ≡ k → ⊥) → k + 1 ≤ n
above k l other = omega arith

same : {n k : ℕ} → k ≤ n → n ≤ k → n ≡ k
same l h = omega arith

module _ {n : ℕ} (low : 4 ≤ n) (high : n ≤ 12) where
  pub last_code : (n ≡ 4 → ⊥) → (n ≡ 5 → ⊥) → (n ≡ 6 → ⊥) → (n ≡ 7 → ⊥) → (n ≡ 8 → ⊥) → (n ≡ 9 → ⊥) → (n ≡ 10 → ⊥) → (n ≡ 11 → ⊥) → n ≡ 12
  last_code a b c d e f g h = same (above 11 (above 10 (above 9 (above 8 (above 7 (above 6 (above 5 (above 4 low a) b) c) d) e) f) g) h) high

-- ---- the attributes of each, before the digest
module _ (f : Fields) (key : List ℕ) where
  pub front_4 : f.code ≡ 4 → attr 12 (two f.said) ∷ [] ≡ front_items f key
  unfolding front_items before_digest_of items_of_types items_of_type required_of
  front_4 e = rw e

  pub front_5 : f.code ≡ 5 → attr 7 key ∷ grant_items f.life f.ak (take f.count f.descriptors) ≡ front_items f key
  unfolding front_items before_digest_of items_of_types items_of_type required_of
  front_5 e = rw (e, append-nil)

  pub front_6 : f.code ≡ 6 → attr 16 (f.error ∷ []) ∷ [] ≡ front_items f key
  unfolding front_items before_digest_of items_of_types items_of_type required_of
  front_6 e = rw e

  pub front_7 : f.code ≡ 7 → named_items f.ak f.said ≡ front_items f key
  unfolding front_items before_digest_of items_of_types items_of_type required_of
  front_7 e = rw e

  pub front_8 : f.code ≡ 8 → named_items f.ak f.said ++ (params_item f.older ∷ params_item f.newer ∷ []) ≡ front_items f key
  unfolding front_items before_digest_of items_of_types items_of_type required_of
  front_8 e = rw e

  pub front_9 : f.code ≡ 9 → named_items f.ak f.said ++ (attr 16 (f.error ∷ []) ∷ []) ≡ front_items f key
  unfolding front_items before_digest_of items_of_types items_of_type required_of
  front_9 e = rw e

  pub front_10 : f.code ≡ 10 → attr 16 (f.error ∷ []) ∷ [] ≡ front_items f key
  unfolding front_items before_digest_of items_of_types items_of_type required_of
  front_10 e = rw e

  pub front_11 : f.code ≡ 11 → named_items f.ak f.said ++ (attr 16 (f.error ∷ []) ∷ []) ≡ front_items f key
  unfolding front_items before_digest_of items_of_types items_of_type required_of
  front_11 e = rw e

  pub front_12 : f.code ≡ 12 → [] ≡ front_items f key
  unfolding front_items before_digest_of items_of_types items_of_type required_of
  front_12 e = rw e

  -- with the digest's, they are all
  pub front_digest : 4 ≤ f.code → f.code ≤ 12 → (digest : List ℕ) → front_items f key ++ digest_items f.code digest ≡ items_of f key digest
  unfolding front_items before_digest_of digest_items items_of items_of_types items_of_type required_of is_required_of among
  front_digest =
      by_code (λ c. (digest : List ℕ) → items_of_types f key [] (before_digest_of (required_of c)) ++ digest_items c digest ≡ items_of_types f key digest (required_of c))
      (λ d. refl)
      (λ d. append-nil _)
      (λ d. refl)
      (λ d. refl)
      (λ d. refl)
      (λ d. refl)
      (λ d. refl)
      (λ d. refl)
      (λ d. refl)
      f.code

-- ---- lengths

-- octets of the digest attribute, where a code carries one
abbrev digest_octets : ℕ → ℕ
digest_octets code = cond (is_required_of code 11) 23 0

length_digest : (code : ℕ) (digest : List ℕ) → length digest ≡ 20 → length (octets (digest_items code digest)) ≡ digest_octets code
unfolding digest_items
length_digest code digest l = go (is_required_of code 11)
  where
    go : (b : Bool) → length (octets (cond b (attr 11 digest ∷ []) [])) ≡ cond b 23 0
    go true = length_items 11 digest [] ∙ omega (arith, l, length_none)
    go false = length_none

module _ (f : Fields) (key : List ℕ) where
  -- the octets before the digest, and the digest attribute's
  body-length : (c : ℕ) → f.code ≡ c → 4 ≤ c → c ≤ 12 → {l : List Item} → l ≡ front_items f key → {n : ℕ} → n ≡ length (octets l) + digest_octets c → BodyLength f key n
  body-length c e low high {l} front {n} counted digest twenty =
      let all : front_items f key ++ digest_items f.code digest ≡ items_of f key digest = front_digest f key (rw e low) (rw e high) digest in
      let sum : length (octets (items_of f key digest)) ≡ length (octets (front_items f key)) + length (octets (digest_items f.code digest)) =
      rw (← all) (simp (octets_append, length-append)) in
      let last : length (octets (digest_items f.code digest)) ≡ digest_octets c = length_digest f.code digest twenty ∙ ap digest_octets e in
      omega (arith, counted, ap (λ (m : List Item). length (octets m)) front, sum, last)

  pub length_4 : f.code ≡ 4 → BodyLength f key 5
  unfolding required_of is_required_of among
  length_4 e = body-length 4 e (omega arith) (omega arith) (front_4 f key e) (simp (length_items, length_none, length_two))

  pub length_5 : f.code ≡ 5 → BodyLength f key (3 + length key + 11 + length (octets (descriptors_items (take f.count f.descriptors))))
  unfolding required_of is_required_of among
  length_5 e = body-length 5 e (omega arith) (omega arith) (front_5 f key e) (simp (length_items, length_four) (omega arith))

  pub length_6 : f.code ≡ 6 → BodyLength f key 4
  unfolding required_of is_required_of among
  length_6 e = body-length 6 e (omega arith) (omega arith) (front_6 f key e) (simp (length_items, length_none))

  pub length_7 : f.code ≡ 7 → BodyLength f key 32
  unfolding required_of is_required_of among
  length_7 e = body-length 7 e (omega arith) (omega arith) (front_7 f key e) (simp (length_items, length_none, length_two))

  pub length_8 : f.code ≡ 8 → BodyLength f key (38 + length (octets (params_items_of f.older)) + length (octets (params_items_of f.newer)))
  unfolding required_of is_required_of among
  length_8 e = body-length 8 e (omega arith) (omega arith) (front_8 f key e) (simp (length_items, length_none, length_two) (omega arith))

  pub length_9 : f.code ≡ 9 → BodyLength f key 36
  unfolding required_of is_required_of among
  length_9 e = body-length 9 e (omega arith) (omega arith) (front_9 f key e) (simp (length_items, length_none, length_two))

  pub length_10 : f.code ≡ 10 → BodyLength f key 4
  unfolding required_of is_required_of among
  length_10 e = body-length 10 e (omega arith) (omega arith) (front_10 f key e) (simp (length_items, length_none))

  pub length_11 : f.code ≡ 11 → BodyLength f key 36
  unfolding required_of is_required_of among
  length_11 e = body-length 11 e (omega arith) (omega arith) (front_11 f key e) (simp (length_items, length_none, length_two))

  pub length_12 : f.code ≡ 12 → BodyLength f key 0
  unfolding required_of is_required_of among
  length_12 e = body-length 12 e (omega arith) (omega arith) (front_12 f key e) (simp length_none)

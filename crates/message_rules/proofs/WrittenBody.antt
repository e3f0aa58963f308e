-- The attributes that are written of some fields meet questions 8 and 9, and are no longer than a message may be.
use Prim.Native.Nat.{ℕ, ◌+◌, ◌*◌, ◌≤◌}
use mathlib.Core.Path.{◌≡◌, refl}
use mathlib.Core.List.{List, append-nil}
use mathlib.Core.Bool.{Bool, true, false, ◌||◌, not, cond}
use lib.ListN.{length, take, length-append, length-take}
use lib.Seq.{length-take-le}
use lib.Dec.{eqb}
use native.Mathlib.Omega.{arith}
use borrow.Author.Tests.{le-leb, ne_eqb}
use Rattle.message_rules.specs.declared.fields.Fields.{Fields}
use Rattle.message_rules.specs.Attributes.{values, count_of, value_at, last_from_of, all_of, two, four, octets}
use Rattle.message_rules.specs.Ranges.{required_of, among, is_required_of, longest_life_of, fits, compound, good}
use Rattle.message_rules.specs.Messages.{has_required, insides_have_required, compounds_have_required, digest_last, different, saids_in_of, saids_differ_of, in_order_of, pair_in_order, complete}
use Rattle.message_rules.specs.Writing.{params_items_of, descriptors_items, items_of_type, items_of_types, items_of}
use Rattle.message_rules.proofs.AttributesLaws.{Short, be16_two, be32_four, length_two, length_four}
use Rattle.message_rules.proofs.HoldsLaws.{length_attr}
use Rattle.message_rules.proofs.CodesLaws.{by_code, all_kinds}
use Rattle.message_rules.proofs.PartsWritten.{params_short, params_required, params_sound, pair_order}
use Rattle.message_rules.proofs.FieldsFit.{Shaped, Fit, ak_most, said_most, life_limits, descriptors_ok, pair_ok}
use Rattle.message_rules.proofs.DescriptorsWritten.{values_descriptors, values_no_descriptor, short_descriptors, length_descriptors, length_insides, all_fit, descriptors_sound, descriptors_required, descriptors_saids}
use Rattle.message_rules.proofs.ItemsWritten.{written_values, written_descriptors, types_short, types_all}

-- The most octets that a message of a code has
abbrev pub most_octets_of : ℕ → ℕ
most_octets_of c = cond (eqb c 5) 342 (cond (eqb c 8) 140 (cond (eqb c 6 || eqb c 10) 8 (cond (eqb c 12) 4 40)))

most_octets : (c : ℕ) → most_octets_of c ≤ 342
most_octets c = go (eqb c 5) (eqb c 8) (eqb c 6 || eqb c 10) (eqb c 12)
  where
    go : (a b d e : Bool) → cond a 342 (cond b 140 (cond d 8 (cond e 4 40))) ≤ 342
    go true b d e = omega arith
    go false true d e = omega arith
    go false false true e = omega arith
    go false false false true = omega arith
    go false false false false = omega arith

module _ (f : Fields) (key digest : List ℕ) (s : Shaped f) (t : Fit f key) (n : length digest ≡ 20) where
  -- ---- the attributes are read back
  pub short : Short (items_of f key digest)
  unfolding items_of items_of_type two four
  short =
      types_short f key digest (required_of f.code)
      (all_kinds (λ k. Short (items_of_type f key digest k)) f.code t.low t.high
      (record {
        k7 = λ h. (omega (arith, (t.key h).1), tt);
        k9 = λ h. (omega arith, tt);
        k10 = λ h. (omega arith, tt);
        k11 = λ h. (omega arith, tt);
        k12 = λ h. (omega arith, tt);
        k13 = λ h. (omega (arith, params_short f.older s.older), (omega (arith, params_short f.newer s.newer), tt));
        k16 = λ h. (omega arith, tt);
        k23 = λ h. short_descriptors (take f.count f.descriptors);
      }))

  -- ---- question 8
  life_longest : longest_life_of f.code ≡ 12096000
  unfolding longest_life_of
  life_longest = rw (ne_eqb f.code 13 (λ q. omega (arith, t.high)))

  pub all_good : all_of (good f.code) (items_of f key digest) ≡ true
  unfolding items_of items_of_type all_of good fits compound
  all_good =
      types_all f key digest (good f.code) (required_of f.code)
      (all_kinds (λ k. all_of (good f.code) (items_of_type f key digest k) ≡ true) f.code t.low t.high
      (record {
        k7 = λ h. let b = t.key h in rw (h, le-leb 1 (length key) b.0, le-leb (length key) 256 b.1);
        k9 = λ h.
            let b = life_limits f key t h in
            rw (h, length_four f.life, be32_four f.life (omega arith), life_longest, le-leb 1 f.life b.0, le-leb f.life 12096000 b.1);
        k10 = λ h. rw (h, le-leb f.ak.0 15 (ak_most f key t h));
        k11 = λ h. rw (h, n);
        k12 = λ h. rw (h, length_two f.said, be16_two f.said (omega (arith, said_most f key t h)), le-leb f.said 16383 (said_most f key t h));
        k13 = λ h. rw (h, params_sound f.older s.older (pair_ok f key t h).older, params_sound f.newer s.newer (pair_ok f key t h).newer);
        k16 = λ h. rw h;
        k23 = λ h. descriptors_sound f.code (take f.count f.descriptors) (all_fit f.count f.descriptors (descriptors_ok f key t h));
      }))

  -- ---- lengths
  pub body_most : length (octets (items_of f key digest)) + 4 ≤ most_octets_of f.code
  unfolding items_of items_of_types items_of_type required_of is_required_of among octets two four
  body_most =
      let o : length (octets (params_items_of f.older)) ≤ 49 = params_short f.older s.older in
      let w : length (octets (params_items_of f.newer)) ≤ 49 = params_short f.newer s.newer in
      let d : length (octets (descriptors_items (take f.count f.descriptors))) ≡ length (take f.count f.descriptors) * 17 =
      length_descriptors (take f.count f.descriptors) in
      let m : length (take f.count f.descriptors) ≤ 4 = rw length-take (omega (arith, s.descriptors)) in
      by_code
      (λ c. (is_required_of c 7 ≡ true → length key ≤ 256) → length (octets (items_of_types f key digest (required_of c))) + 4 ≤ most_octets_of c)
      (λ k. simp (length-append, length_attr) (omega arith))
      (λ k. let q : length key ≤ 256 = k refl in simp (append-nil, length-append, length_attr) (omega arith))
      (λ k. simp (length-append, length_attr) (omega arith))
      (λ k. simp (length-append, length_attr) (omega arith))
      (λ k. simp (length-append, length_attr) (omega arith))
      (λ k. simp (length-append, length_attr) (omega arith))
      (λ k. simp (length-append, length_attr) (omega arith))
      (λ k. simp (length-append, length_attr) (omega arith))
      (λ k. omega arith)
      f.code t.low t.high
      (λ h. (t.key h).1)

  pub body_fits : length (octets (items_of f key digest)) ≤ 1490
  body_fits = omega (arith, body_most, most_octets f.code)

  -- ---- question 9
  counted : is_required_of f.code 23 ≡ true → (1 ≤ length (take f.count f.descriptors)) × (length (take f.count f.descriptors) ≤ 4)
  counted h =
      let d = descriptors_ok f key t h in
      let q : length (take f.count f.descriptors) ≡ f.count = length-take-le f.count f.descriptors (omega (arith, s.descriptors, d.high)) in
      (omega (arith, d.low), omega (arith, d.high))

  all_required : has_required (required_of f.code) (items_of f key digest) ≡ true
  unfolding items_of items_of_types items_of_type required_of is_required_of among has_required count_of values
  all_required =
      by_code
      (λ c. (is_required_of c 23 ≡ true → (1 ≤ length (take f.count f.descriptors)) × (length (take f.count f.descriptors) ≤ 4))
      → has_required (required_of c) (items_of_types f key digest (required_of c)) ≡ true)
      (λ k. refl)
      (λ k.
      let q = k refl in
      let ds = take f.count f.descriptors in
      rw (
        append-nil (descriptors_items ds),
        values_descriptors ds,
        length_insides ds,
        values_no_descriptor 7 refl ds,
        values_no_descriptor 9 refl ds,
        values_no_descriptor 10 refl ds,
        le-leb 1 (length ds) q.0,
        le-leb (length ds) 4 q.1,
      ))
      (λ k. refl)
      (λ k. refl)
      (λ k. refl)
      (λ k. refl)
      (λ k. refl)
      (λ k. refl)
      (λ k. refl)
      f.code t.low t.high counted

  digest_ends : digest_last f.code (items_of f key digest) ≡ true
  unfolding items_of items_of_types items_of_type required_of is_required_of among digest_last last_from_of
  digest_ends =
      by_code (λ c. digest_last c (items_of_types f key digest (required_of c)) ≡ true) refl refl refl refl refl refl refl refl refl f.code t.low t.high

  -- a question that is asked where a type is needed
  asked : (k : ℕ) (b : Bool) → (is_required_of f.code k ≡ true → b ≡ true) → not (is_required_of f.code k) || b ≡ true
  asked k b h = go (is_required_of f.code k) h
    where
      go : (a : Bool) → (a ≡ true → b ≡ true) → not a || b ≡ true
      go true h = h refl
      go false h = refl

  params_in : is_required_of f.code 13 ≡ true → insides_have_required 13 (values 13 (items_of f key digest)) ≡ true
  unfolding insides_have_required values items_of_type
  params_in h = rw (written_values f key digest t.low t.high 13 h, params_required f.older s.older, params_required f.newer s.newer)

  descriptors_in : is_required_of f.code 23 ≡ true → insides_have_required 23 (values 23 (items_of f key digest)) ≡ true
  descriptors_in h = rw (written_descriptors f key digest t.low t.high h) (descriptors_required (take f.count f.descriptors))

  saids_in : is_required_of f.code 23 ≡ true → different (saids_in_of (values 23 (items_of f key digest))) ≡ true
  saids_in h =
      rw (written_descriptors f key digest t.low t.high h, descriptors_saids (take f.count f.descriptors) (all_fit f.count f.descriptors (descriptors_ok f key t h)))
      (descriptors_ok f key t h).differ

  pair-in : is_required_of f.code 13 ≡ true → in_order_of (value_at 13 0 (items_of f key digest)) (value_at 13 1 (items_of f key digest)) ≡ true
  unfolding value_at values items_of_type
  pair-in h = rw (written_values f key digest t.low t.high 13 h) (pair_order f.older f.newer s.older s.newer (pair_ok f key t h))

  pub all_complete : complete f.code (items_of f key digest) ≡ true
  unfolding complete compounds_have_required saids_differ_of pair_in_order
  all_complete =
      rw (
        all_required,
        digest_ends,
        asked 13 (insides_have_required 13 (values 13 (items_of f key digest))) params_in,
        asked 23 (insides_have_required 23 (values 23 (items_of f key digest))) descriptors_in,
        asked 23 (different (saids_in_of (values 23 (items_of f key digest)))) saids_in,
        asked 13 (in_order_of (value_at 13 0 (items_of f key digest)) (value_at 13 1 (items_of f key digest))) pair-in,
      )

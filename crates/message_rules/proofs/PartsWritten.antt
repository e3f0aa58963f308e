-- The compounds, written and read back: TEK-Parameters and SA-Descriptors.
use Prim.Native.Nat.{ℕ, zero, suc, ◌+◌, ◌-◌, ◌%◌, ◌≤◌}
use mathlib.Core.Path.{◌≡◌, refl, sym, ap, ◌∙◌}
use mathlib.Core.List.{List, [], ◌∷◌, ◌++◌}
use mathlib.Core.Bool.{Bool, true, false, ◌&&◌, ◌||◌}
use lib.ListN.{length, take, drop, replicate, length-append, length-take, length-drop, take-append-drop}
use lib.Seq.{length-take-le, take-append-add}
use lib.Dec.{leb, ltb, eqb}
use native.Mathlib.Omega.{arith}
use borrow.Author.Tests.{leb-true, eqb-true, le-leb}
use Rattle.questions.proofs.TestLaws.{both}
use Rattle.key_traffic.specs.Octets.{padded, all_zero, zero_past_of}
use Rattle.key_traffic.specs.Suites.{suite_known_of, width_known_of}
use Rattle.message_rules.specs.declared.fields.KeyOctets.{KeyOctets}
use Rattle.message_rules.specs.declared.fields.Params.{Params}
use Rattle.message_rules.specs.declared.fields.Descriptor.{Descriptor}
use Rattle.message_rules.specs.Attributes.{items, items_with, values, count_of, value_at, all_of, be16, be32, two, four, octets}
use Rattle.message_rules.specs.Ranges.{required_of, among, is_required_of, longest_life_of, fits, inside_good, inside_sound}
use Rattle.message_rules.specs.Messages.{has_required, in_order_of}
use Rattle.message_rules.specs.Fields.{key_octets_of, params_of, descriptor_of}
use Rattle.message_rules.specs.Limits.{key_octets_fit_of, key_octets_zero_of, params_fit_of, params_zero_of, pair_fit_of, descriptor_fit_of, descriptor_zero_of}
use Rattle.message_rules.specs.Writing.{own_octets_of, params_items_of, descriptor_items_of}
use Rattle.message_rules.proofs.AttributesLaws.{be16_two, be32_four, length_two, length_four, items_octets}
use Rattle.message_rules.proofs.HoldsLaws.{never, length_attr}

-- ---- octets of a key or a vector
pub take_replicate : {A : Type 0} (n m : ℕ) (a : A) → n ≤ m → take n (replicate m a) ≡ replicate n a
take_replicate zero m a h = refl
take_replicate (suc n) zero a h = absurd (omega arith)
take_replicate (suc n) (suc m) a h = ap (λ (l : List _). a ∷ l) (take_replicate n m a (omega arith))

pub zero_replicate : (l : List ℕ) → all_zero l ≡ true → l ≡ replicate (length l) 0
unfolding all_zero
zero_replicate [] e = refl
zero_replicate (x ∷ l) e =
    let h = both (eqb x 0) (all_zero l) e in
    let here : x ≡ 0 = eqb-true x 0 h.0 in
    let rest : l ≡ replicate (length l) 0 = zero_replicate l h.1 in
    cc

-- 16 octets with zeros past a width are those of the width, padded
module _ (w : ℕ) (o : List ℕ) (n : length o ≡ 16) (most : w ≤ 16) (z : zero_past_of w o ≡ true) where
  past : replicate (16 - w) 0 ≡ drop w o
  unfolding zero_past_of
  past =
      let back : length (drop w o) ≡ 16 - w = simp length-drop (omega arith) in
      rw (← back) (sym (zero_replicate (drop w o) z))

  pub length_own : length (take w o) ≡ w
  length_own = length-take-le w o (omega arith)

  pub padded_own : padded (take w o) ≡ o
  unfolding padded
  padded_own =
      let whole : 16 ≡ length (take w o) + (16 - w) = omega (arith, length_own) in
      ap (λ (m : ℕ). take m (take w o ++ replicate 16 0)) whole
      ∙ take-append-add (take w o) (replicate 16 0) (16 - w)
      ∙ ap (λ (l : List ℕ). take w o ++ l) (take_replicate (16 - w) 16 0 (omega arith) ∙ past)
      ∙ take-append-drop w o

pub key_back : (k : KeyOctets) → length k.octets ≡ 16 → k.width ≤ 16 → zero_past_of k.width k.octets ≡ true → key_octets_of (own_octets_of k) ≡ k
unfolding key_octets_of
key_back k n most z = λ i. record { width = length_own k.width k.octets n most z i; octets = padded_own k.width k.octets n most z i }

-- a number that is one of two
one_of_two : (n a b : ℕ) → a ≤ b → eqb n a || eqb n b ≡ true → n ≤ b
one_of_two n a b less e = go (eqb n a) refl (eqb n b) refl e
  where
    go : (p : Bool) → eqb n a ≡ p → (q : Bool) → eqb n b ≡ q → p || q ≡ true → n ≤ b
    go true p q r h = omega (arith, eqb-true n a p)
    go false p true q h = omega (arith, eqb-true n b q)
    go false p false q h = never h

pub width_most : (w : ℕ) → width_known_of w ≡ true → w ≤ 16
width_most w e = one_of_two w 8 16 (omega arith) e

pub record ShapedParams (p : Params) : Type 0 where
  pub tek : length p.tek.octets ≡ 16
  pub vector : length p.vector.octets ≡ 16

-- ---- TEK-Parameters
pub record ParamsFit (p : Params) : Type 0 where
  pub number : p.number.0 ≤ 15
  pub low : 1 ≤ p.life
  pub high : p.life ≤ 604800
  pub tek : width_known_of p.tek.width ≡ true
  pub tek_past : zero_past_of p.tek.width p.tek.octets ≡ true
  pub vector : width_known_of p.vector.width ≡ true
  pub vector_past : zero_past_of p.vector.width p.vector.octets ≡ true

pub params_fit : (p : Params) → params_fit_of p ≡ true → ParamsFit p
unfolding params_fit_of key_octets_fit_of
params_fit p e =
    let a = leb p.number.0 15 in
    let b = leb 1 p.life in
    let c = leb p.life 604800 in
    let e4 = both (a && b && c && key_octets_fit_of p.tek) (key_octets_fit_of p.vector) e in
    let e3 = both (a && b && c) (key_octets_fit_of p.tek) e4.0 in
    let e2 = both (a && b) c e3.0 in
    let e1 = both a b e2.0 in
    let t = both (width_known_of p.tek.width) (zero_past_of p.tek.width p.tek.octets) e3.1 in
    let v = both (width_known_of p.vector.width) (zero_past_of p.vector.width p.vector.octets) e4.1 in
    record {
      number = leb-true p.number.0 15 e1.0;
      low = leb-true 1 p.life e1.1;
      high = leb-true p.life 604800 e2.1;
      tek = t.0;
      tek_past = t.1;
      vector = v.0;
      vector_past = v.1;
    }

module _ (p : Params) (s : ShapedParams p) where
  pub params_short : length (octets (params_items_of p)) ≤ 49
  unfolding octets params_items_of four
  params_short = simp (length-append, length_attr, length-take) (omega (arith, s.tek, s.vector))

  pub params_items : items (octets (params_items_of p)) ≡ params_items_of p
  unfolding params_items_of four
  params_items =
      items_octets (params_items_of p) (
        omega (arith, length-take p.tek.width p.tek.octets, s.tek),
        (
          omega arith,
          (
            omega arith,
            (omega (arith, length-take p.vector.width p.vector.octets, s.vector), tt),
          ),
        ),
      )

  pub params_required : has_required (required_of 13) (items (octets (params_items_of p))) ≡ true
  unfolding required_of has_required count_of values params_items_of
  params_required = rw params_items

  module _ (f : ParamsFit p) where
    tek_own : length (own_octets_of p.tek) ≡ p.tek.width
    tek_own = length_own p.tek.width p.tek.octets s.tek (width_most p.tek.width f.tek) f.tek_past

    vector_own : length (own_octets_of p.vector) ≡ p.vector.width
    vector_own = length_own p.vector.width p.vector.octets s.vector (width_most p.vector.width f.vector) f.vector_past

    pub params_sound : inside_sound 13 (octets (params_items_of p)) ≡ true
    unfolding inside_sound inside_good is_required_of required_of among fits longest_life_of all_of params_items_of
    params_sound =
        rw (
          params_items,
          tek_own,
          vector_own,
          f.tek,
          f.vector,
          length_four p.life,
          be32_four p.life (omega (arith, f.high)),
          le-leb 1 p.life f.low,
          le-leb p.life 604800 f.high,
          le-leb p.number.0 15 f.number,
        )

    pub params_back : params_of (octets (params_items_of p)) ≡ p
    unfolding params_of value_at values params_items_of
    params_back =
        rw (
          params_items,
          key_back p.tek s.tek (width_most p.tek.width f.tek) f.tek_past,
          key_back p.vector s.vector (width_most p.vector.width f.vector) f.vector_past,
          be32_four p.life (omega (arith, f.high)),
        )

-- nothing is read as nothing
pub key_none : (k : KeyOctets) → length k.octets ≡ 16 → key_octets_zero_of k ≡ true → key_octets_of [] ≡ k
unfolding key_octets_zero_of
key_none k n e =
    let h = both (eqb k.width 0) (zero_past_of 0 k.octets) e in
    let w : k.width ≡ 0 = eqb-true k.width 0 h.0 in
    let past : zero_past_of k.width k.octets ≡ true = rw w h.1 in
    let own : own_octets_of k ≡ [] = rw w in
    ap key_octets_of (sym own) ∙ key_back k n (omega arith) past

pub params_none : (p : Params) → ShapedParams p → params_zero_of p ≡ true → params_of [] ≡ p
unfolding params_zero_of params_of items items_with value_at values be32
params_none p s e =
    let a = eqb p.number.0 0 in
    let b = eqb p.life 0 in
    let e3 = both (a && b && key_octets_zero_of p.tek) (key_octets_zero_of p.vector) e in
    let e2 = both (a && b) (key_octets_zero_of p.tek) e3.0 in
    let e1 = both a b e2.0 in
    let number : 0 ≡ p.number.0 = sym (eqb-true p.number.0 0 e1.0) in
    let life : 0 ≡ p.life = sym (eqb-true p.life 0 e1.1) in
    λ i. record { number = record { 0 = number i }; life = life i; tek = key_none p.tek s.tek e2.1 i; vector = key_none p.vector s.vector e3.1 i }

-- two in order
pub record PairFit (p q : Params) : Type 0 where
  pub older : ParamsFit p
  pub newer : ParamsFit q
  pub next : eqb q.number.0 ((p.number.0 + 1) % 16) ≡ true
  pub sooner : ltb p.life q.life ≡ true

pub pair-fit : (older newer : Params) → pair_fit_of older newer ≡ true → PairFit older newer
unfolding pair_fit_of
pair-fit older newer e =
    let c = eqb newer.number.0 ((older.number.0 + 1) % 16) in
    let e3 = both (params_fit_of older && params_fit_of newer && c) (ltb older.life newer.life) e in
    let e2 = both (params_fit_of older && params_fit_of newer) c e3.0 in
    let e1 = both (params_fit_of older) (params_fit_of newer) e2.0 in
    record { older = params_fit older e1.0; newer = params_fit newer e1.1; next = e2.1; sooner = e3.1 }

pub pair_order : (older newer : Params) → ShapedParams older → ShapedParams newer → PairFit older newer
    → in_order_of (octets (params_items_of older)) (octets (params_items_of newer)) ≡ true
unfolding in_order_of value_at values params_items_of
pair_order older newer so sn f =
    let o : be32 (four older.life) ≡ older.life = be32_four older.life (omega (arith, f.older.high)) in
    let n : be32 (four newer.life) ≡ newer.life = be32_four newer.life (omega (arith, f.newer.high)) in
    rw (params_items older so, params_items newer sn, o, n, f.next) f.sooner

-- ---- SA-Descriptors
pub descriptor_items : (d : Descriptor) → items (octets (descriptor_items_of d)) ≡ descriptor_items_of d
unfolding descriptor_items_of two
descriptor_items d = items_octets (descriptor_items_of d) (omega arith, (omega arith, (omega arith, tt)))

pub descriptor_length : (d : Descriptor) → length (octets (descriptor_items_of d)) ≡ 14
unfolding octets descriptor_items_of two
descriptor_length d = simp (length-append, length_attr) refl

pub descriptor_required : (d : Descriptor) → has_required (required_of 23) (items (octets (descriptor_items_of d))) ≡ true
unfolding required_of has_required count_of values descriptor_items_of
descriptor_required d = rw (descriptor_items d)

pub record DescriptorFit (d : Descriptor) : Type 0 where
  pub said : d.said ≤ 16383
  pub kind : d.kind ≤ 2
  pub suite : suite_known_of d.suite ≡ true

pub descriptor-fit : (d : Descriptor) → descriptor_fit_of d ≡ true → DescriptorFit d
unfolding descriptor_fit_of
descriptor-fit d e =
    let e2 = both (leb d.said 16383 && leb d.kind 2) (suite_known_of d.suite) e in
    let e1 = both (leb d.said 16383) (leb d.kind 2) e2.0 in
    record { said = leb-true d.said 16383 e1.0; kind = leb-true d.kind 2 e1.1; suite = e2.1 }

pub suite_most : (n : ℕ) → suite_known_of n ≡ true → n ≤ 768
suite_most n e = one_of_two n 256 768 (omega arith) e

module _ (d : Descriptor) (f : DescriptorFit d) where
  said_back : be16 (two d.said) ≡ d.said
  said_back = be16_two d.said (omega (arith, f.said))

  suite_back : be16 (two d.suite) ≡ d.suite
  suite_back = be16_two d.suite (omega (arith, suite_most d.suite f.suite))

  pub descriptor_sound : inside_sound 23 (octets (descriptor_items_of d)) ≡ true
  unfolding inside_sound inside_good is_required_of required_of among fits all_of descriptor_items_of
  descriptor_sound =
      rw (descriptor_items d, length_two d.said, length_two d.suite, said_back, suite_back, le-leb d.said 16383 f.said, le-leb d.kind 2 f.kind, f.suite)

  pub descriptor_back : descriptor_of (octets (descriptor_items_of d)) ≡ d
  unfolding descriptor_of value_at values descriptor_items_of
  descriptor_back = rw (descriptor_items d, said_back, suite_back)

pub descriptor_none : (d : Descriptor) → descriptor_zero_of d ≡ true → descriptor_of [] ≡ d
unfolding descriptor_zero_of descriptor_of items items_with value_at values be16
descriptor_none d e =
    let e2 = both (eqb d.said 0 && eqb d.kind 0) (eqb d.suite 0) e in
    let e1 = both (eqb d.said 0) (eqb d.kind 0) e2.0 in
    let a : 0 ≡ d.said = sym (eqb-true d.said 0 e1.0) in
    let b : 0 ≡ d.kind = sym (eqb-true d.kind 0 e1.1) in
    let c : 0 ≡ d.suite = sym (eqb-true d.suite 0 e2.1) in
    λ i. record { said = a i; kind = b i; suite = c i }

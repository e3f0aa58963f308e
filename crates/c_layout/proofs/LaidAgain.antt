-- Octets that are taken as fields and laid out again are those octets: all 109 of them, so that nothing that C hands over is lost.
use Prim.Native.Nat.{ℕ, ◌+◌, ◌%◌, ◌≤◌}
use mathlib.Core.Path.{◌≡◌, refl, sym, ap, ◌∙◌}
use mathlib.Core.List.{List, [], ◌∷◌, ◌++◌, append-nil}
use native.Mathlib.Omega.{arith}
use native.Mathlib.Nat.{mod-eq_of_lt}
use lib.ListN.{length, get_or, take, drop, replicate, length-drop}
use lib.Seq.{take_at, take_all, take-add, drop-drop, length-take-le}
use Rattle.key_traffic.specs.Octets.{padded, octets_value}
use Rattle.message_rules.specs.Attributes.{be16, be32, two, four}
use Rattle.message_rules.proofs.AttributesLaws.{Octets, octets_take, octets_drop, octet_below, two_be16, four_be32}
use Rattle.c_layout.specs.Layout.{key_laid, params_laid, descriptor_laid, descriptors_laid, head_laid, fields_octets, part_at, key_from_of, params_from_of, descriptor_from_of, descriptors_from_of, fields_from_of}

-- ---- parts of octets
part_length : (i n : ℕ) (s : List ℕ) → i + n ≤ length s → length (part_at i n s) ≡ n
part_length i n s h = length-take-le n (drop i s) (omega (arith, h, length-drop i s))

part_octets : (i n : ℕ) (s : List ℕ) → Octets s → Octets (part_at i n s)
part_octets i n s o = octets_take n (drop i s) (octets_drop i s o)

-- one behind the other
joined : (i a b : ℕ) (s : List ℕ) → part_at i a s ++ part_at (i + a) b s ≡ part_at i (a + b) s
joined i a b s = sym (take-add a b (drop i s) ∙ ap (λ (l : List ℕ). take a (drop i s) ++ take b l) (drop-drop a i s))

before_part : (i a b : ℕ) (s : List ℕ) {x y : List ℕ} → x ≡ part_at i a s → y ≡ part_at (i + a) b s → x ++ y ≡ part_at i (a + b) s
before_part i a b s {x} {y} e f = ap (λ (l : List ℕ). l ++ y) e ∙ ap (λ (l : List ℕ). part_at i a s ++ l) f ∙ joined i a b s

cons_as : {x y : ℕ} {l m : List ℕ} → x ≡ y → l ≡ m → ◌≡◌ {A = List ℕ} (x ∷ l) (y ∷ m)
cons_as e f = rw (e, f)

-- ---- each kind of part
key_again : (v : List ℕ) → length v ≡ 17 → Octets v → key_laid (key_from_of v) ≡ v
unfolding key_laid key_from_of octets_value padded
key_again [] l o = absurd (omega (arith, l))
key_again (w ∷ v) l o =
    cons_as (mod-eq_of_lt o.0)
    (ap (λ (q : List ℕ). take 16 (q ++ replicate 16 0)) (take_all 16 v (omega (arith, l))) ∙ take_at v (replicate 16 0) 16 (omega (arith, l)))

params_again : (v : List ℕ) → length v ≡ 39 → Octets v → params_laid (params_from_of v) ≡ v
unfolding params_laid params_from_of
params_again [] l o = absurd (omega (arith, l))
params_again (x ∷ r) l o =
    let life : four (be32 (part_at 0 4 r)) ≡ part_at 0 4 r = four_be32 (part_at 0 4 r) (part_length 0 4 r (omega (arith, l))) (part_octets 0 4 r o.1) in
    let tek : key_laid (key_from_of (part_at 4 17 r)) ≡ part_at 4 17 r = key_again (part_at 4 17 r) (part_length 4 17 r (omega (arith, l))) (part_octets 4 17 r o.1) in
    let vector : key_laid (key_from_of (part_at 21 17 r)) ≡ part_at 21 17 r = key_again (part_at 21 17 r) (part_length 21 17 r (omega (arith, l))) (part_octets 21 17 r o.1) in
    cons_as refl (before_part 0 4 34 r life (before_part 4 17 17 r tek vector) ∙ take_all 38 r (omega (arith, l)))

descriptor_again : (v : List ℕ) → length v ≡ 5 → Octets v → descriptor_laid (descriptor_from_of v) ≡ v
unfolding descriptor_laid descriptor_from_of
descriptor_again [] l o = absurd (omega (arith, l))
descriptor_again (a ∷ []) l o = absurd (omega (arith, l))
descriptor_again (a ∷ b ∷ []) l o = absurd (omega (arith, l))
descriptor_again (a ∷ b ∷ k ∷ r) l o =
    let said : two (be16 (a ∷ b ∷ [])) ≡ a ∷ b ∷ [] = two_be16 (a ∷ b ∷ []) refl (o.0, (o.1.0, tt)) in
    let suite : two (be16 (take 2 r)) ≡ r = two_be16 (take 2 r) (length-take-le 2 r (omega (arith, l))) (octets_take 2 r o.1.1.1) ∙ take_all 2 r (omega (arith, l)) in
    ap (λ (q : List ℕ). q ++ (k ∷ two (be16 (take 2 r)))) said ∙ ap (λ (q : List ℕ). a ∷ b ∷ k ∷ q) suite

descriptors_again : (v : List ℕ) → length v ≡ 20 → Octets v → descriptors_laid (descriptors_from_of v) ≡ v
unfolding descriptors_laid descriptors_from_of
descriptors_again v l o =
    let at : (i : ℕ) → i + 5 ≤ 20 → descriptor_laid (descriptor_from_of (part_at i 5 v)) ≡ part_at i 5 v =
    λ i h. descriptor_again (part_at i 5 v) (part_length i 5 v (omega (arith, h, l))) (part_octets i 5 v o) in
    let last : descriptor_laid (descriptor_from_of (part_at 15 5 v)) ++ [] ≡ part_at 15 5 v = append-nil _ ∙ at 15 (omega arith) in
    before_part 0 5 15 v (at 0 (omega arith)) (before_part 5 5 10 v (at 5 (omega arith)) (before_part 10 5 5 v (at 10 (omega arith)) last))
    ∙ take_all 20 v (omega (arith, l))

five_octets : (s : List ℕ) → 5 ≤ length s → get_or s 0 0 ∷ get_or s 1 0 ∷ get_or s 2 0 ∷ get_or s 3 0 ∷ get_or s 4 0 ∷ [] ≡ part_at 0 5 s
five_octets [] h = absurd (omega (arith, h))
five_octets (a ∷ []) h = absurd (omega (arith, h))
five_octets (a ∷ b ∷ []) h = absurd (omega (arith, h))
five_octets (a ∷ b ∷ c ∷ []) h = absurd (omega (arith, h))
five_octets (a ∷ b ∷ c ∷ d ∷ []) h = absurd (omega (arith, h))
five_octets (a ∷ b ∷ c ∷ d ∷ e ∷ s) h = refl

-- ---- all of them
module _ (s : List ℕ) (o : Octets s) (long : 109 ≤ length s) where
  head_again : head_laid (fields_from_of s) ≡ part_at 0 11 s
  unfolding head_laid fields_from_of
  head_again =
      let count : get_or s 4 0 % 256 ≡ get_or s 4 0 = mod-eq_of_lt (octet_below s 4 o) in
      let numbers = ap (λ (n : ℕ). get_or s 0 0 ∷ get_or s 1 0 ∷ get_or s 2 0 ∷ get_or s 3 0 ∷ n ∷ []) count ∙ five_octets s (omega (arith, long)) in
      let said : two (be16 (part_at 5 2 s)) ≡ part_at 5 2 s = two_be16 (part_at 5 2 s) (part_length 5 2 s (omega (arith, long))) (part_octets 5 2 s o) in
      let life : four (be32 (part_at 7 4 s)) ≡ part_at 7 4 s = four_be32 (part_at 7 4 s) (part_length 7 4 s (omega (arith, long))) (part_octets 7 4 s o) in
      before_part 0 5 6 s numbers (before_part 5 2 4 s said life)

  pub laid_again : fields_octets (fields_from_of s) ≡ take 109 s
  unfolding fields_octets fields_from_of
  laid_again =
      let ds = descriptors_again (part_at 11 20 s) (part_length 11 20 s (omega (arith, long))) (part_octets 11 20 s o) in
      let older = params_again (part_at 31 39 s) (part_length 31 39 s (omega (arith, long))) (part_octets 31 39 s o) in
      let newer = params_again (part_at 70 39 s) (part_length 70 39 s (omega (arith, long))) (part_octets 70 39 s o) in
      before_part 0 11 98 s head_again (before_part 11 20 78 s ds (before_part 31 39 39 s older newer))

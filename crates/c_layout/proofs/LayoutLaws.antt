-- Laws of the fields in octets (`specs/Layout.antt`): what is put there is read back as it was.
use Prim.Native.Nat.{ℕ, ◌+◌, ◌<◌}
use mathlib.Core.Path.{◌≡◌, refl, sym, ap, ◌∙◌}
use mathlib.Core.List.{List, [], ◌∷◌, ◌++◌, append-nil, append_assoc}
use native.Mathlib.Omega.{arith}
use native.Mathlib.Nat.{mod-eq_of_lt}
use native.Mathlib.Numerals.{add-one}
use lib.ListN.{length, get_or, take, drop, replicate, length-append}
use lib.Seq.{take_at, drop_at, take_all, take-suc}
use Rattle.key_traffic.specs.Octets.{padded, octets_value}
use Rattle.message_rules.specs.declared.fields.KeyOctets.{KeyOctets}
use Rattle.message_rules.specs.declared.fields.Params.{Params}
use Rattle.message_rules.specs.declared.fields.Descriptor.{Descriptor}
use Rattle.message_rules.specs.declared.fields.Fields.{Fields}
use Rattle.message_rules.specs.Attributes.{two, four}
use Rattle.message_rules.specs.Fields.{no_descriptor_of}
use Rattle.message_rules.proofs.AttributesLaws.{be16_two, be32_four}
use Rattle.message_rules.proofs.FieldsFit.{Shaped}
use Rattle.message_rules.proofs.PartsWritten.{ShapedParams}
use Rattle.questions.proofs.ListLaws.{of_four}
use Rattle.c_layout.specs.Layout.{key_laid, params_laid, descriptor_laid, descriptors_laid, head_laid, fields_octets, key_from_of, params_from_of, descriptor_from_of, descriptors_from_of, fields_from_of}

-- ---- numbers within what their octets hold; those of one octet that are not named here are declared so
pub record ParamsHeld (p : Params) : Type 0 where
  pub life : p.life < 4294967296
  pub tek : p.tek.width < 256
  pub vector : p.vector.width < 256

pub record DescriptorHeld (d : Descriptor) : Type 0 where
  pub said : d.said < 65536
  pub suite : d.suite < 65536

pub record Held (f : Fields) : Type 0 where
  pub said : f.said < 65536
  pub life : f.life < 4294967296
  pub count : f.count < 256
  pub first : DescriptorHeld (get_or f.descriptors 0 no_descriptor_of)
  pub second : DescriptorHeld (get_or f.descriptors 1 no_descriptor_of)
  pub third : DescriptorHeld (get_or f.descriptors 2 no_descriptor_of)
  pub fourth : DescriptorHeld (get_or f.descriptors 3 no_descriptor_of)
  pub older : ParamsHeld f.older
  pub newer : ParamsHeld f.newer

-- ---- descriptors, one after the other
laid_snoc : (ds : List Descriptor) (d : Descriptor) → descriptors_laid (ds ++ (d ∷ [])) ≡ descriptors_laid ds ++ descriptor_laid d
unfolding descriptors_laid
laid_snoc [] d = append-nil _
laid_snoc (e ∷ ds) d = ap (λ (l : List ℕ). descriptor_laid e ++ l) (laid_snoc ds d) ∙ sym (append_assoc (descriptor_laid e) (descriptors_laid ds) (descriptor_laid d))

pub laid_more : (i : ℕ) (ds : List Descriptor) → i < length ds → descriptors_laid (take i ds) ++ descriptor_laid (get_or ds i no_descriptor_of) ≡ descriptors_laid (take (i + 1) ds)
laid_more i ds h =
    sym (laid_snoc (take i ds) (get_or ds i no_descriptor_of)) ∙ ap descriptors_laid (sym (rw add-one (take-suc ds i no_descriptor_of h)))

-- ---- lengths
length_key : (k : KeyOctets) → length k.octets ≡ 16 → length (key_laid k) ≡ 17
unfolding key_laid
length_key k l = omega (arith, l)

length_params : (p : Params) → ShapedParams p → length (params_laid p) ≡ 39
unfolding params_laid four
length_params p s = simp (length-append, length_key p.tek s.tek, length_key p.vector s.vector)

length_descriptors : (ds : List Descriptor) → length ds ≡ 4 → length (descriptors_laid ds) ≡ 20
unfolding descriptors_laid descriptor_laid two
length_descriptors ds h = of_four (λ (l : List Descriptor). length (descriptors_laid l) ≡ 20) (λ a b c d. refl) ds h

pub length_fields : (f : Fields) → Shaped f → length (fields_octets f) ≡ 109
unfolding fields_octets head_laid two four
length_fields f s =
    simp (length-append, length_descriptors f.descriptors s.descriptors, length_params f.older s.older, length_params f.newer s.newer)

-- ---- a part of the fields and back
key_as : (k : KeyOctets) {w : ℕ} {o : List ℕ} → w ≡ k.width → o ≡ k.octets → ◌≡◌ {A = KeyOctets} (record { width = w; octets = o }) k
key_as k a b = rw (a, b)

key_back : (k : KeyOctets) → length k.octets ≡ 16 → k.width < 256 → key_from_of (key_laid k) ≡ k
unfolding key_from_of key_laid octets_value padded
key_back k l h =
    key_as k (mod-eq_of_lt h)
    (ap (λ (o : List ℕ). take 16 (o ++ replicate 16 0)) (take_all 16 k.octets (omega (arith, l))) ∙ take_at k.octets (replicate 16 0) 16 l)

params_as : (p : Params) {n l : ℕ} {t v : KeyOctets} → n ≡ p.number.0 → l ≡ p.life → t ≡ p.tek → v ≡ p.vector
    → ◌≡◌ {A = Params} (record { number = record { 0 = n }; life = l; tek = t; vector = v }) p
params_as p a b c d = rw (a, b, c, d)

params_back : (p : Params) → ShapedParams p → ParamsHeld p → params_from_of (params_laid p) ≡ p
unfolding params_from_of params_laid four
params_back p s h =
    let t = key_laid p.tek in
    let v = key_laid p.vector in
    let lt = length_key p.tek s.tek in
    let lv = length_key p.vector s.vector in
    let first : take 17 (t ++ v) ≡ t = take_at t v 17 lt in
    let second : take 17 (drop 17 (t ++ v)) ≡ v = ap (take 17) (drop_at t v 17 lt) ∙ take_all 17 v (omega (arith, lv)) in
    params_as p refl (be32_four p.life h.life)
    (ap key_from_of first ∙ key_back p.tek s.tek h.tek)
    (ap key_from_of second ∙ key_back p.vector s.vector h.vector)

descriptor_as : (d : Descriptor) {a k b : ℕ} → a ≡ d.said → k ≡ d.kind → b ≡ d.suite → ◌≡◌ {A = Descriptor} (record { said = a; kind = k; suite = b }) d
descriptor_as d a k b = rw (a, k, b)

descriptor_back : (d : Descriptor) → DescriptorHeld d → descriptor_from_of (descriptor_laid d) ≡ d
unfolding descriptor_from_of descriptor_laid two
descriptor_back d h = descriptor_as d (be16_two d.said h.said) refl (be16_two d.suite h.suite)

abbrev FourBack : List Descriptor → Type 0
FourBack l =
    DescriptorHeld (get_or l 0 no_descriptor_of) → DescriptorHeld (get_or l 1 no_descriptor_of)
    → DescriptorHeld (get_or l 2 no_descriptor_of) → DescriptorHeld (get_or l 3 no_descriptor_of)
    → descriptors_from_of (descriptors_laid l) ≡ l

four_as : {a b c d a₀ b₀ c₀ d₀ : Descriptor} → a ≡ a₀ → b ≡ b₀ → c ≡ c₀ → d ≡ d₀
    → ◌≡◌ {A = List Descriptor} (a ∷ b ∷ c ∷ d ∷ []) (a₀ ∷ b₀ ∷ c₀ ∷ d₀ ∷ [])
four_as e f g h = rw (e, f, g, h)

descriptors_back : (ds : List Descriptor) → length ds ≡ 4 → FourBack ds
unfolding descriptors_from_of descriptors_laid descriptor_laid two
descriptors_back ds h =
    of_four FourBack
    (λ a b c d ha hb hc hd. four_as (descriptor_back a ha) (descriptor_back b hb) (descriptor_back c hc) (descriptor_back d hd))
    ds h

-- ---- three parts one after the other, and what follows them
module _ (x y z rest : List ℕ) (lx : length x ≡ 20) (ly : length y ≡ 39) (lz : length z ≡ 39) where
  apart : (x ++ (y ++ z)) ++ rest ≡ x ++ (y ++ (z ++ rest))
  apart = append_assoc x (y ++ z) rest ∙ ap (λ (l : List ℕ). x ++ l) (append_assoc y z rest)

  first_part : take 20 ((x ++ (y ++ z)) ++ rest) ≡ x
  first_part = ap (take 20) apart ∙ take_at x (y ++ (z ++ rest)) 20 lx

  second_part : take 39 (drop 20 ((x ++ (y ++ z)) ++ rest)) ≡ y
  second_part =
      ap (λ (l : List ℕ). take 39 (drop 20 l)) apart
      ∙ ap (take 39) (drop_at x (y ++ (z ++ rest)) 20 lx)
      ∙ take_at y (z ++ rest) 39 ly

  third_part : take 39 (drop 59 ((x ++ (y ++ z)) ++ rest)) ≡ z
  third_part =
      let both : length (x ++ y) ≡ 59 = simp (length-append, lx, ly) in
      ap (λ (l : List ℕ). take 39 (drop 59 l)) (apart ∙ sym (append_assoc x y (z ++ rest)))
      ∙ ap (take 39) (drop_at (x ++ y) (z ++ rest) 59 both)
      ∙ take_at z rest 39 lz

-- ---- the fields and back
fields_as : (f : Fields) {s l n : ℕ} {ds : List Descriptor} {o w : Params}
    → s ≡ f.said → l ≡ f.life → n ≡ f.count → ds ≡ f.descriptors → o ≡ f.older → w ≡ f.newer
    → ◌≡◌ {A = Fields}
    (record { code = f.code; identifier = f.identifier; ak = f.ak; said = s; life = l; error = f.error; count = n; descriptors = ds; older = o; newer = w }) f
fields_as f a b c d e g = rw (a, b, c, d, e, g)

pub fields_back : (f : Fields) → Shaped f → Held f → (rest : List ℕ) → fields_from_of (fields_octets f ++ rest) ≡ f
unfolding fields_from_of fields_octets head_laid two four
fields_back f s h rest =
    let d = descriptors_laid f.descriptors in
    let o = params_laid f.older in
    let n = params_laid f.newer in
    let ld = length_descriptors f.descriptors s.descriptors in
    let lo = length_params f.older s.older in
    let ln = length_params f.newer s.newer in
    fields_as f
    (be16_two f.said h.said)
    (be32_four f.life h.life)
    (mod-eq_of_lt h.count)
    (ap descriptors_from_of (first_part d o n rest ld lo ln)
    ∙ descriptors_back f.descriptors s.descriptors h.first h.second h.third h.fourth)
    (ap params_from_of (second_part d o n rest ld lo ln) ∙ params_back f.older s.older h.older)
    (ap params_from_of (third_part d o n rest ld lo ln) ∙ params_back f.newer s.newer h.newer)

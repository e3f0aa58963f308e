-- Laws of the parts of a message and of their lengths.
use Prim.Native.Nat.{ℕ, ◌+◌, ◌*◌, ◌/◌, ◌%◌, ◌<◌, ◌≤◌, min}
use mir.Syntax.{w16, w32}
use Rattle.std.specs.Int.{to_be_bytes}
use native.Mathlib.Numerals.{add-one}
use mathlib.Core.Path.{◌≡◌, refl, sym, ap, ◌∙◌}
use mathlib.Core.Bool.{Bool, true, false}
use mathlib.Core.List.{List, [], ◌∷◌, ◌++◌}
use native.Mathlib.Omega.{arith}
use lib.Dec.{ltb}
use lib.ListN.{length, get_or, take, length-append, length-take}
use lib.Seq.{take_all, take-suc}
use Rattle.questions.proofs.ListLaws.{IfLt, if_lt}
use Rattle.message_rules.specs.declared.fields.Params.{Params}
use Rattle.message_rules.specs.declared.fields.Descriptor.{Descriptor}
use Rattle.message_rules.specs.Attributes.{Item, attr, octets, attr_octets, two, four}
use Rattle.message_rules.specs.Fields.{no_descriptor_of}
use Rattle.message_rules.specs.Writing.{params_items_of, descriptors_items}
use Rattle.message_rules.proofs.AttributesLaws.{length_two, length_four}
use Rattle.message_rules.proofs.PartsWritten.{descriptor_length}
use Rattle.message_parts.specs.Parts.{descriptor_item}

pub length_items : (k : ℕ) (v : List ℕ) (l : List Item) → length (octets (attr k v ∷ l)) ≡ 3 + length v + length (octets l)
unfolding octets attr_octets
length_items k v l = simp (length-append, length_two) (omega arith)

pub length_none : length (octets []) ≡ 0
unfolding octets
length_none = refl

-- a key's own octets are at most the 16 that hold it
pub own_octets : (w n : ℕ) (o : List ℕ) → n ≡ min w 16 → length o ≡ 16 → take n o ≡ take w o
own_octets w n o e l = go (ltb w 16) (if_lt w 16)
  where
    go : (t : Bool) → IfLt w 16 t → take n o ≡ take w o
    go true h = let s : n ≡ w = omega arith in ap (λ (k : ℕ). take k o) s
    go false h = take_all n o (omega arith) ∙ sym (take_all w o (omega arith))

pub length_own : (w : ℕ) (o : List ℕ) → length o ≡ 16 → length (take w o) ≡ min w 16
length_own w o l = simp (length-take, l)

pub length_params : (p : Params) → length p.tek.octets ≡ 16 → length p.vector.octets ≡ 16 → length (octets (params_items_of p)) ≡ 17 + min p.tek.width 16 + min p.vector.width 16
unfolding params_items_of
length_params p t v = simp (length_items, length_none, length_four, length_own p.tek.width p.tek.octets t, length_own p.vector.width p.vector.octets v) (omega arith)

pub length_descriptors : (ds : List Descriptor) → length (octets (descriptors_items ds)) ≡ 17 * length ds
unfolding descriptors_items
length_descriptors [] = length_none
length_descriptors (d ∷ ds) = simp (length_items, descriptor_length, length_descriptors ds) (omega arith)

pub length_first : (n : ℕ) (ds : List Descriptor) → length ds ≡ 4 → length (octets (descriptors_items (take n ds))) ≡ 17 * min n 4
length_first n ds s = simp (length_descriptors, length-take, s)

-- ---- descriptors, one after the other
descriptors_snoc : (l : List Descriptor) (d : Descriptor) → descriptors_items (l ++ (d ∷ [])) ≡ descriptors_items l ++ (descriptor_item d ∷ [])
unfolding descriptors_items
descriptors_snoc [] d = refl
descriptors_snoc (e ∷ l) d = ap (λ (m : List Item). descriptor_item e ∷ m) (descriptors_snoc l d)

-- one more of a list of them
pub descriptors_more : (i : ℕ) (ds : List Descriptor) (d : Descriptor) → i < length ds → d ≡ get_or ds i no_descriptor_of
    → descriptors_items (take i ds) ++ (descriptor_item d ∷ []) ≡ descriptors_items (take (i + 1) ds)
descriptors_more i ds d h e =
    sym (descriptors_snoc (take i ds) d)
    ∙ ap (λ (x : Descriptor). descriptors_items (take i ds ++ (x ∷ []))) e
    ∙ ap descriptors_items (sym (rw add-one (take-suc ds i no_descriptor_of h)))

-- the same where no more than n are put
pub descriptors_up_to : (n i : ℕ) (ds : List Descriptor) (d : Descriptor) → i < n → i < length ds → d ≡ get_or ds i no_descriptor_of
    → descriptors_items (take (min i n) ds) ++ (descriptor_item d ∷ []) ≡ descriptors_items (take (min (i + 1) n) ds)
descriptors_up_to n i ds d on h e =
    let one : min i n ≡ i = omega arith in
    let more : min (i + 1) n ≡ i + 1 = omega arith in
    rw (one, more) (descriptors_more i ds d h e)

pub descriptors_past : (n i : ℕ) (ds : List Descriptor) → n ≤ i → descriptors_items (take (min i n) ds) ≡ descriptors_items (take (min (i + 1) n) ds)
descriptors_past n i ds off = let s : min i n ≡ min (i + 1) n = omega arith in ap (λ (k : ℕ). descriptors_items (take k ds)) s

pub first_descriptors : (n i : ℕ) (ds : List Descriptor) → length ds ≤ i → descriptors_items (take (min i n) ds) ≡ descriptors_items (take n ds)
first_descriptors n i ds h = go (ltb i n) (if_lt i n)
  where
    go : (t : Bool) → IfLt i n t → descriptors_items (take (min i n) ds) ≡ descriptors_items (take n ds)
    go true l = let s : min i n ≡ i = omega arith in rw s (ap descriptors_items (take_all i ds h ∙ sym (take_all n ds (omega arith))))
    go false l = let s : min i n ≡ n = omega arith in ap (λ (k : ℕ). descriptors_items (take k ds)) s

-- ---- numbers in octets, of which only the lower ones are taken
pub two_lower : (n : ℕ) → to_be_bytes w16 (n % 65536) ≡ two n
unfolding two
two_lower n =
    let high : n % 65536 / 256 % 256 ≡ n / 256 % 256 = omega arith in
    let low : n % 65536 % 256 ≡ n % 256 = omega arith in
    rw (high, low) refl

pub four_lower : (n : ℕ) → to_be_bytes w32 (n % 4294967296) ≡ four n
unfolding four
four_lower n =
    let first : n % 4294967296 / 16777216 % 256 ≡ n / 16777216 % 256 = omega arith in
    let second : n % 4294967296 / 65536 % 256 ≡ n / 65536 % 256 = omega arith in
    let third : n % 4294967296 / 256 % 256 ≡ n / 256 % 256 = omega arith in
    let fourth : n % 4294967296 % 256 ≡ n % 256 = omega arith in
    rw (first, second, third, fourth) refl

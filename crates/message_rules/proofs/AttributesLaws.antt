-- Laws of `specs/Attributes.antt`: attributes as octets and back, and numbers as octets and back.
use Prim.Native.Nat.{ℕ, zero, suc, ◌+◌, ◌*◌, ◌/◌, ◌%◌, ◌≤◌, ◌<◌}
use mathlib.Core.Path.{◌≡◌, refl, sym, ap, ◌∙◌}
use mathlib.Core.List.{List, [], ◌∷◌, ◌++◌}
use mathlib.Core.Bool.{Bool, true, false}
use lib.ListN.{length, get_or, take, drop, length-append, length-drop, take-append-drop}
use lib.Seq.{take_at, drop_at, length-take-le}
use lib.Dec.{leb}
use native.Mathlib.Omega.{arith}
use native.Mathlib.Nat.{div-div-eq-div-mul, div-add-mod', mod-eq_of_lt}
use borrow.Author.Tests.{le-leb, lt-leb, leb-true}
use Rattle.message_rules.specs.Attributes.{Item, attr, cut, item, items_with, items, be16, be32, two, four, attr_octets, octets}

-- ---- lists of octets and of attributes

-- Every octet is below 256
abbrev pub Octets : List ℕ → Type 0
Octets [] = Unit {0}
Octets (x ∷ s) = (x < 256) × Octets s

-- No cut
abbrev pub Whole : List Item → Type 0
Whole [] = Unit {0}
Whole (attr k v ∷ l) = Whole l
Whole (cut ∷ l) = ⊥

-- Whole attributes, of values short enough to have a length
abbrev pub Short : List Item → Type 0
Short [] = Unit {0}
Short (attr k v ∷ l) = (length v < 65536) × Short l
Short (cut ∷ l) = ⊥

pub octets_drop : (n : ℕ) (s : List ℕ) → Octets s → Octets (drop n s)
octets_drop zero s h = h
octets_drop (suc n) [] h = tt
octets_drop (suc n) (x ∷ s) h = octets_drop n s h.1

pub octets_take : (n : ℕ) (s : List ℕ) → Octets s → Octets (take n s)
octets_take zero s h = tt
octets_take (suc n) [] h = tt
octets_take (suc n) (x ∷ s) h = (h.0, octets_take n s h.1)

pub octet_below : (s : List ℕ) (i : ℕ) → Octets s → get_or s i 0 < 256
octet_below [] i o = omega arith
octet_below (x ∷ s) zero o = o.0
octet_below (x ∷ s) (suc i) o = octet_below s i o.1

pub short_append : (l m : List Item) → Short l → Short m → Short (l ++ m)
short_append [] m h g = g
short_append (attr k v ∷ l) m h g = (h.0, short_append l m h.1 g)
short_append (cut ∷ l) m h g = absurd h

-- ---- numbers as octets and back
pub be16_two : (n : ℕ) → n < 65536 → be16 (two n) ≡ n
unfolding be16 two
be16_two n h = omega arith

-- `omega` does not take three nested quotients at once: it is handed each digit as a variable
digits : (n a b c x y z : ℕ) → a * 256 + x ≡ n → b * 256 + y ≡ a → c * 256 + z ≡ b → c * 16777216 + z * 65536 + y * 256 + x ≡ n
digits n a b c x y z e f g = omega arith

pub be32_four : (n : ℕ) → n < 4294967296 → be32 (four n) ≡ n
unfolding be32 four
be32_four n h =
    let e2 : n / 65536 ≡ n / 256 / 256 = sym (div-div-eq-div-mul n 256 256) in
    let e3 : n / 16777216 ≡ n / 256 / 256 / 256 = sym (ap (λ (k : ℕ). k / 256) (div-div-eq-div-mul n 256 256) ∙ div-div-eq-div-mul n 65536 256) in
    let top : n / 16777216 % 256 ≡ n / 256 / 256 / 256 = mod-eq_of_lt (omega arith) ∙ e3 in
    let mid : n / 65536 % 256 ≡ n / 256 / 256 % 256 = ap (λ (k : ℕ). k % 256) e2 in
    ap (λ (k : ℕ). k * 16777216 + n / 65536 % 256 * 65536 + n / 256 % 256 * 256 + n % 256) top
    ∙ ap (λ (k : ℕ). n / 256 / 256 / 256 * 16777216 + k * 65536 + n / 256 % 256 * 256 + n % 256) mid
    ∙ digits n (n / 256) (n / 256 / 256) (n / 256 / 256 / 256) (n % 256) (n / 256 % 256) (n / 256 / 256 % 256)
    (div-add-mod' n 256) (div-add-mod' (n / 256) 256) (div-add-mod' (n / 256 / 256) 256)

pub length_two : (n : ℕ) → length (two n) ≡ 2
unfolding two
length_two n = refl

pub length_four : (n : ℕ) → length (four n) ≡ 4
unfolding four
length_four n = refl

-- Two octets spell a number, and the number spells them
pub spell : (a b n : ℕ) → a < 256 → b < 256 → n ≡ a * 256 + b → (n / 256 % 256 ≡ a) × (n % 256 ≡ b)
spell a b n ha hb e = omega arith

pub one_be : (v : List ℕ) → length v ≡ 1 → get_or v 0 0 ∷ [] ≡ v
one_be [] e = absurd (omega arith)
one_be (x ∷ []) e = refl
one_be (x ∷ y ∷ v) e = absurd (omega arith)

pub two_be16 : (v : List ℕ) → length v ≡ 2 → Octets v → two (be16 v) ≡ v
unfolding two be16
two_be16 [] e o = absurd (omega arith)
two_be16 (x ∷ []) e o = absurd (omega arith)
two_be16 (x ∷ y ∷ []) e o =
    let s = spell x y (x * 256 + y) o.0 o.1.0 refl in
    rw (s.0, s.1)
two_be16 (x ∷ y ∷ z ∷ v) e o = absurd (omega arith)

same_four : {a b c d w x y z : ℕ} → w ≡ a → x ≡ b → y ≡ c → z ≡ d → w ∷ x ∷ y ∷ z ∷ [] ≡ a ∷ b ∷ c ∷ d ∷ []
same_four ea eb ec ed = cc

pub four_be32 : (v : List ℕ) → length v ≡ 4 → Octets v → four (be32 v) ≡ v
unfolding four be32
four_be32 [] e o = absurd (omega arith)
four_be32 (a ∷ []) e o = absurd (omega arith)
four_be32 (a ∷ b ∷ []) e o = absurd (omega arith)
four_be32 (a ∷ b ∷ c ∷ []) e o = absurd (omega arith)
four_be32 (a ∷ b ∷ c ∷ d ∷ []) e o =
    let ha : a < 256 = o.0 in
    let hb : b < 256 = o.1.0 in
    let hc : c < 256 = o.1.1.0 in
    let hd : d < 256 = o.1.1.1.0 in
    same_four (omega arith) (omega arith) (omega arith) (omega arith)
four_be32 (a ∷ b ∷ c ∷ d ∷ x ∷ v) e o = absurd (omega arith)

-- ---- attributes as octets and back

-- Fuel beyond the length changes nothing
pub fuel : (f g : ℕ) (s : List ℕ) → length s ≤ f → length s ≤ g → items_with f s ≡ items_with g s
unfolding items_with
fuel zero zero s hf hg = refl
fuel zero (suc g) [] hf hg = refl
fuel zero (suc g) (k ∷ s) hf hg = absurd (omega arith)
fuel (suc f) zero [] hf hg = refl
fuel (suc f) zero (k ∷ s) hf hg = absurd (omega arith)
fuel (suc f) (suc g) [] hf hg = refl
fuel (suc f) (suc g) (k ∷ []) hf hg = refl
fuel (suc f) (suc g) (k ∷ a ∷ []) hf hg = refl
fuel (suc f) (suc g) (k ∷ a ∷ b ∷ r) hf hg =
    ap (item (leb (a * 256 + b) (length r)) k (a * 256 + b) r)
    (fuel f g (drop (a * 256 + b) r) (simp length-drop (omega arith)) (simp length-drop (omega arith)))

-- What stands at the front of a holder
pub items_attr : (k a b : ℕ) (r : List ℕ) → a * 256 + b ≤ length r
    → items (k ∷ a ∷ b ∷ r) ≡ attr k (take (a * 256 + b) r) ∷ items (drop (a * 256 + b) r)
unfolding items items_with
items_attr k a b r h =
    simp (le-leb _ _ h)
    (ap (λ (l : List Item). attr k (take (a * 256 + b) r) ∷ l)
    (fuel (suc (suc (length r))) (length (drop (a * 256 + b) r)) (drop (a * 256 + b) r) (simp length-drop (omega arith)) (omega arith)))

pub items_cut : (k a b : ℕ) (r : List ℕ) → length r < a * 256 + b → items (k ∷ a ∷ b ∷ r) ≡ cut ∷ []
unfolding items items_with
items_cut k a b r h = simp (lt-leb _ _ h)

pub items_few : (s : List ℕ) → 0 < length s → length s < 3 → items s ≡ cut ∷ []
unfolding items items_with
items_few [] h l = absurd (omega arith)
items_few (k ∷ []) h l = refl
items_few (k ∷ a ∷ []) h l = refl
items_few (k ∷ a ∷ b ∷ r) h l = absurd (omega arith)

pub items_none : items [] ≡ []
unfolding items items_with
items_none = refl

-- A written attribute is read as itself
pub items_written : (k : ℕ) (v rest : List ℕ) → length v < 65536 → items (attr_octets k v ++ rest) ≡ attr k v ∷ items rest
unfolding attr_octets two
items_written k v rest h =
    let e : length v / 256 % 256 * 256 + length v % 256 ≡ length v = omega arith in
    items_attr k (length v / 256 % 256) (length v % 256) (v ++ rest) (simp length-append (omega arith))
    ∙ rw (take_at v rest (length v / 256 % 256 * 256 + length v % 256) (sym e), drop_at v rest (length v / 256 % 256 * 256 + length v % 256) (sym e))

-- Written attributes are read back
pub items_octets : (l : List Item) → Short l → items (octets l) ≡ l
unfolding octets
items_octets [] h = items_none
items_octets (attr k v ∷ l) h = items_written k v (octets l) h.0 ∙ ap (λ (r : List Item). attr k v ∷ r) (items_octets l h.1)
items_octets (cut ∷ l) h = absurd h

attr_again : (k a b : ℕ) (r : List ℕ) → a < 256 → b < 256 → a * 256 + b ≤ length r → attr_octets k (take (a * 256 + b) r) ≡ k ∷ a ∷ b ∷ take (a * 256 + b) r
unfolding attr_octets two
attr_again k a b r ha hb h =
    let e = spell a b (length (take (a * 256 + b) r)) ha hb (length-take-le (a * 256 + b) r h) in
    rw (e.0, e.1)

again : (f : ℕ) (s : List ℕ) → length s ≤ f → Octets s → Whole (items_with f s) → octets (items_with f s) ≡ s
unfolding items_with octets
again zero [] h o w = refl
again zero (x ∷ s) h o w = absurd (omega arith)
again (suc f) [] h o w = refl
again (suc f) (k ∷ []) h o w = absurd w
again (suc f) (k ∷ a ∷ []) h o w = absurd w
again (suc f) (k ∷ a ∷ b ∷ r) h o w =
    go (leb (a * 256 + b) (length r)) refl w
    (again f (drop (a * 256 + b) r) (simp length-drop (omega arith)) (octets_drop (a * 256 + b) r o.1.1.1))
  where
    go : (t : Bool) → leb (a * 256 + b) (length r) ≡ t → Whole (item t k (a * 256 + b) r (items_with f (drop (a * 256 + b) r)))
        → (Whole (items_with f (drop (a * 256 + b) r)) → octets (items_with f (drop (a * 256 + b) r)) ≡ drop (a * 256 + b) r)
        → octets (item t k (a * 256 + b) r (items_with f (drop (a * 256 + b) r))) ≡ k ∷ a ∷ b ∷ r
    go true e w ih =
        ap (λ (l : List ℕ). attr_octets k (take (a * 256 + b) r) ++ l) (ih w)
        ∙ ap (λ (l : List ℕ). l ++ drop (a * 256 + b) r) (attr_again k a b r o.1.0 o.1.1.0 (leb-true _ _ e))
        ∙ ap (λ (l : List ℕ). k ∷ a ∷ b ∷ l) (take-append-drop (a * 256 + b) r)
    go false e w ih = absurd w

-- What is read as whole attributes is those attributes written
pub octets_items : (s : List ℕ) → Octets s → Whole (items s) → octets (items s) ≡ s
unfolding items
octets_items s o w = again (length s) s (omega arith) o w

-- FIPS 197, sections 4.1 to 4.3: octets as elements of GF(2^8), and lists of octets.
use Rattle.std.specs.Prelude.{ℕ, ◌*◌, ◌/◌, ◌%◌, ◌<◌, ◌≡◌, List, [], ◌∷◌, length}
use Rattle.std.specs.Int.Bits.{bit_xor}

infixl 60 ◌⊕◌
-- 4.1: the sum of two elements
unfoldable pub ◌⊕◌ : ℕ → ℕ → ℕ
◌⊕◌ a b = bit_xor a b

-- 4.1: the sums of two lists' elements, as far as both go
unfoldable pub xors : List ℕ → List ℕ → List ℕ
xors [] t = []
xors (a ∷ s) [] = []
xors (a ∷ s) (b ∷ t) = (a ⊕ b) ∷ xors s t

-- 4.2, xTimes: an element times {02}: shifted by one place, and where bit 7 was set {01}{1b} is added
unfoldable pub by2 : ℕ → ℕ
by2 x = x * 2 ⊕ x / 128 % 2 * 0x11b

-- 4.2: times {04}
abbrev pub by4 : ℕ → ℕ
by4 x = by2 (by2 x)

-- 4.2: times {08}
abbrev pub by8 : ℕ → ℕ
by8 x = by2 (by4 x)

-- 4.2: times {03}, of MixColumns
unfoldable pub by3 : ℕ → ℕ
by3 x = by2 x ⊕ x

-- 4.2: times {09}, of InvMixColumns
unfoldable pub by9 : ℕ → ℕ
by9 x = by8 x ⊕ x

-- 4.2: times {0b}, of InvMixColumns
unfoldable pub by11 : ℕ → ℕ
by11 x = by8 x ⊕ by2 x ⊕ x

-- 4.2: times {0d}, of InvMixColumns
unfoldable pub by13 : ℕ → ℕ
by13 x = by8 x ⊕ by4 x ⊕ x

-- 4.2: times {0e}, of InvMixColumns
unfoldable pub by14 : ℕ → ℕ
by14 x = by8 x ⊕ by4 x ⊕ by2 x

-- 3.2: each element of the list is an octet
abbrev pub Octets : List ℕ → Type 0
Octets [] = Unit
Octets (x ∷ s) = (x < 256) × Octets s

-- 3.1: a block, and a key, has 16 octets
abbrev pub Block : List ℕ → Type 0
Block s = (length s ≡ 16) × Octets s

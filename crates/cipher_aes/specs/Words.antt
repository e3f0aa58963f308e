-- FIPS 197, 3.4, 3.5 and 5.2: the octets of the code's words, States and round keys; and what its tables hold.
use Rattle.std.specs.Prelude.{ℕ, ◌+◌, ◌*◌, ◌/◌, ◌%◌, ◌≡◌, List, [], ◌∷◌, ◌++◌, map, get_or}
use Rattle.cipher_aes.specs.Field.{by2, by3, by9, by11, by13, by14}
use Rattle.cipher_aes.specs.Sbox.{sbox, inv_sbox}
use Rattle.cipher_aes.specs.declared.words.State.{State}

-- 3.5: the octets of a word, the highest first
unfoldable pub word : ℕ → List ℕ
word w = w / 16777216 % 256 ∷ w / 65536 % 256 ∷ w / 256 % 256 ∷ w % 256 ∷ []

-- four octets moved one place on, the last to the front
abbrev pub rotated : List ℕ → List ℕ
rotated s = get_or s 3 0 ∷ get_or s 0 0 ∷ get_or s 1 0 ∷ get_or s 2 0 ∷ []

-- 3.4: the octets of a State, column after column
unfoldable pub state : State → List ℕ
state s = word s.a ++ word s.b ++ word s.c ++ word s.d

-- 5.2: round key i of a schedule
unfoldable pub key_at : List State → ℕ → List ℕ
key_at w i = state (get_or w i (record { a = 0; b = 0; c = 0; d = 0 }))

-- 3.5: the word of four octets
abbrev pub word_of : ℕ → ℕ → ℕ → ℕ → ℕ
word_of a b c d = a * 16777216 + b * 65536 + c * 256 + d

-- 5.1.3: what an octet of row 0 adds to its column by MixColumns, where s is the S-box at it: {02} s, s, s, {03} s
abbrev pub enc_word : ℕ → ℕ
enc_word s = word_of (by2 s) s s (by3 s)

-- 5.3.3: what it adds by InvMixColumns, where s is the inverse S-box at it: {0e} s, {09} s, {0d} s, {0b} s
abbrev pub dec_word : ℕ → ℕ
dec_word s = word_of (by14 s) (by9 s) (by13 s) (by11 s)

-- 5.1.1, 5.1.3: t has the word of each octet, for SubBytes and MixColumns
unfoldable pub EncTable : List ℕ → Type 0
EncTable t = t ≡ map enc_word sbox

-- 5.3.2, 5.3.3: the same for InvSubBytes and InvMixColumns
unfoldable pub DecTable : List ℕ → Type 0
DecTable t = t ≡ map dec_word inv_sbox

-- 5.3.2: t is the inverse S-box
unfoldable pub InvTable : List ℕ → Type 0
InvTable t = t ≡ inv_sbox

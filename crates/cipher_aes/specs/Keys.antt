-- FIPS 197, 5.2: the key expansion for a key of 16 octets, four words, that is a round key, at a time.
use Rattle.std.specs.Prelude.{ℕ, zero, suc, List, [], ◌∷◌, ◌++◌, get_or, take, drop}
use Rattle.cipher_aes.specs.Field.{xors}
use Rattle.cipher_aes.specs.Sbox.{sub}

-- 5.2, table 5: the first octets of the round constants
unfoldable pub rcons : List ℕ
rcons = 0x01 ∷ 0x02 ∷ 0x04 ∷ 0x08 ∷ 0x10 ∷ 0x20 ∷ 0x40 ∷ 0x80 ∷ 0x1b ∷ 0x36 ∷ []

-- 5.2, table 5: the first octet of Rcon[n + 1]
unfoldable pub rcon : ℕ → ℕ
rcon n = get_or rcons n 0

-- 5.2: SubWord of RotWord of a round key's last word, with the round constant added
unfoldable pub substituted_rotated_of : ℕ → List ℕ → List ℕ
substituted_rotated_of rc k =
    xors (sub (get_or k 13 0) ∷ sub (get_or k 14 0) ∷ sub (get_or k 15 0) ∷ sub (get_or k 12 0) ∷ []) (rc ∷ 0 ∷ 0 ∷ 0 ∷ [])

-- 3.5: the word of a list that begins at octet i
abbrev pub word_at : ℕ → List ℕ → List ℕ
word_at i k = take 4 (drop i k)

-- 5.2: the next four words: each is the sum of the word four before it and the word before it; for the first of them t stands for the latter
unfoldable pub chained : List ℕ → List ℕ → List ℕ
chained t k =
    xors (word_at 0 k) t
    ++ xors (word_at 4 k) (xors (word_at 0 k) t)
    ++ xors (word_at 8 k) (xors (word_at 4 k) (xors (word_at 0 k) t))
    ++ xors (word_at 12 k) (xors (word_at 8 k) (xors (word_at 4 k) (xors (word_at 0 k) t)))

-- 5.2: the round key after k
unfoldable pub next_key_of : ℕ → List ℕ → List ℕ
next_key_of rc k = chained (substituted_rotated_of rc k) k

-- 5.2: round key n; round key 0 is the key
unfoldable pub round_key : List ℕ → ℕ → List ℕ
round_key key zero = key
round_key key (suc n) = next_key_of (rcon n) (round_key key n)

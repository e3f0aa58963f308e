-- FIPS 197, 5.1 and 5.3: the cipher and the inverse cipher on a State of 16 octets, column after column, as the octets come in (3.4). A round key
-- is a list of 16 octets; `w n` is that of round n.
use Rattle.std.specs.Prelude.{ℕ, zero, suc, List, [], ◌∷◌, ◌++◌, get_or}
use Rattle.cipher_aes.specs.Field.{◌⊕◌, xors, by2, by3, by9, by11, by13, by14}
use Rattle.cipher_aes.specs.Sbox.{sub_bytes, inv_sub_bytes}

-- 5.1.2, ShiftRows: row r of the State moves r places to the left
unfoldable pub shift_rows : List ℕ → List ℕ
shift_rows s =
    get_or s 0 0 ∷ get_or s 5 0 ∷ get_or s 10 0 ∷ get_or s 15 0
    ∷ get_or s 4 0 ∷ get_or s 9 0 ∷ get_or s 14 0 ∷ get_or s 3 0
    ∷ get_or s 8 0 ∷ get_or s 13 0 ∷ get_or s 2 0 ∷ get_or s 7 0
    ∷ get_or s 12 0 ∷ get_or s 1 0 ∷ get_or s 6 0 ∷ get_or s 11 0 ∷ []

-- 5.3.1, InvShiftRows: row r moves r places to the right
unfoldable pub inv_shift_rows : List ℕ → List ℕ
inv_shift_rows s =
    get_or s 0 0 ∷ get_or s 13 0 ∷ get_or s 10 0 ∷ get_or s 7 0
    ∷ get_or s 4 0 ∷ get_or s 1 0 ∷ get_or s 14 0 ∷ get_or s 11 0
    ∷ get_or s 8 0 ∷ get_or s 5 0 ∷ get_or s 2 0 ∷ get_or s 15 0
    ∷ get_or s 12 0 ∷ get_or s 9 0 ∷ get_or s 6 0 ∷ get_or s 3 0 ∷ []

-- 5.1.3: a column times the matrix of MixColumns
unfoldable pub mix_column : ℕ → ℕ → ℕ → ℕ → List ℕ
mix_column a b c d =
    (by2 a ⊕ by3 b ⊕ c ⊕ d)
    ∷ (a ⊕ by2 b ⊕ by3 c ⊕ d)
    ∷ (a ⊕ b ⊕ by2 c ⊕ by3 d)
    ∷ (by3 a ⊕ b ⊕ c ⊕ by2 d) ∷ []

-- 5.3.3: a column times the matrix of InvMixColumns
unfoldable pub inv_mix_column : ℕ → ℕ → ℕ → ℕ → List ℕ
inv_mix_column a b c d =
    (by14 a ⊕ by11 b ⊕ by13 c ⊕ by9 d)
    ∷ (by9 a ⊕ by14 b ⊕ by11 c ⊕ by13 d)
    ∷ (by13 a ⊕ by9 b ⊕ by14 c ⊕ by11 d)
    ∷ (by11 a ⊕ by13 b ⊕ by9 c ⊕ by14 d) ∷ []

-- 5.1.3: f at each of the four columns
unfoldable pub columns : (ℕ → ℕ → ℕ → ℕ → List ℕ) → List ℕ → List ℕ
columns f s =
    f (get_or s 0 0) (get_or s 1 0) (get_or s 2 0) (get_or s 3 0)
    ++ f (get_or s 4 0) (get_or s 5 0) (get_or s 6 0) (get_or s 7 0)
    ++ f (get_or s 8 0) (get_or s 9 0) (get_or s 10 0) (get_or s 11 0)
    ++ f (get_or s 12 0) (get_or s 13 0) (get_or s 14 0) (get_or s 15 0)

-- 5.1.3, MixColumns
abbrev pub mix_columns : List ℕ → List ℕ
mix_columns = columns mix_column

-- 5.3.3, InvMixColumns
abbrev pub inv_mix_columns : List ℕ → List ℕ
inv_mix_columns = columns inv_mix_column

-- 5.1.4, AddRoundKey: the round key k is added
abbrev pub add_round_key_of : List ℕ → List ℕ → List ℕ
add_round_key_of k s = xors s k

-- 5.1: a round
unfoldable pub round : List ℕ → List ℕ → List ℕ
round k s = add_round_key_of k (mix_columns (shift_rows (sub_bytes s)))

-- 5.1: the last round, without MixColumns
unfoldable pub final_round_of : List ℕ → List ℕ → List ℕ
final_round_of k s = add_round_key_of k (shift_rows (sub_bytes s))

-- 5.1: rounds 1, .. n
unfoldable pub rounds : (ℕ → List ℕ) → ℕ → List ℕ → List ℕ
rounds w zero s = s
rounds w (suc n) s = round (w (suc n)) (rounds w n s)

-- 5.1: the cipher: round key 0, nine rounds and the last one
unfoldable pub cipher : (ℕ → List ℕ) → List ℕ → List ℕ
cipher w s = final_round_of (w 10) (rounds w 9 (add_round_key_of (w 0) s))

-- 5.3: a round of the inverse cipher
unfoldable pub inv_round_of : List ℕ → List ℕ → List ℕ
inv_round_of k s = inv_mix_columns (add_round_key_of k (inv_sub_bytes (inv_shift_rows s)))

-- 5.3: rounds n, .. 1 of the inverse cipher
unfoldable pub inv_rounds : (ℕ → List ℕ) → ℕ → List ℕ → List ℕ
inv_rounds w zero s = s
inv_rounds w (suc n) s = inv_rounds w n (inv_round_of (w (suc n)) s)

-- 5.3: its last round, without InvMixColumns
unfoldable pub inv_final_of : List ℕ → List ℕ → List ℕ
inv_final_of k s = add_round_key_of k (inv_sub_bytes (inv_shift_rows s))

-- 5.3: the inverse cipher
unfoldable pub inv_cipher : (ℕ → List ℕ) → List ℕ → List ℕ
inv_cipher w s = inv_final_of (w 0) (inv_rounds w 9 (add_round_key_of (w 10) s))

-- 5.3.5: a round of the equivalent inverse cipher; its key is that of the round through InvMixColumns
unfoldable pub eq_round_of : List ℕ → List ℕ → List ℕ
eq_round_of k s = add_round_key_of k (inv_mix_columns (inv_sub_bytes (inv_shift_rows s)))

-- 5.3.5: its rounds n, .. 1
unfoldable pub eq_rounds_of : (ℕ → List ℕ) → ℕ → List ℕ → List ℕ
eq_rounds_of v zero s = s
eq_rounds_of v (suc n) s = eq_rounds_of v n (eq_round_of (v (suc n)) s)

-- 5.3.5: the equivalent inverse cipher; `v n` is `w n` through InvMixColumns
unfoldable pub eq_inv_cipher : (ℕ → List ℕ) → (ℕ → List ℕ) → List ℕ → List ℕ
eq_inv_cipher w v s = inv_final_of (w 0) (eq_rounds_of v 9 (add_round_key_of (w 10) s))

-- The octets of the rows' frames: what AES with CBC and the residual block makes of them under the keys of SAID 8 (document 000, 11.1 and I.7).
-- Each sealing is computed once; that opening gives the frame back is the cipher's law, and the inverse cipher is not computed.
use mathlib.Core.Path.{◌≡◌, refl, sym, ap, ◌∙◌}
use mathlib.Core.Bool.{Bool, true, ◌&&◌}
use mathlib.Core.List.{List, [], ◌∷◌}
use Prim.Native.Nat.{ℕ}
use lib.Dec.{ltb, leb, eqb}
use lib.ListN.{length}
use borrow.Author.Tests.{ltb-true, leb-true, eqb-true}
use Rattle.questions.proofs.TestLaws.{both}
use Rattle.cipher_aes.specs.Field.{Octets, Block}
use Rattle.cipher_cbc.specs.Cbc.{seal_aes, open_aes}
use Rattle.cipher_cbc.proofs.CbcLaws.{aes_opened}
use Rattle.demand_rows.proofs.RowsComputing.{ciphering}
use Rattle.demand_rows.proofs.RowsSetUp.{counting}

-- ---- SAID 8's keys: generation 0, which seals what goes down, and generation 1, which seals what goes up
abbrev pub down_tek : List ℕ
down_tek = 64 ∷ 65 ∷ 66 ∷ 67 ∷ 68 ∷ 69 ∷ 70 ∷ 71 ∷ 72 ∷ 73 ∷ 74 ∷ 75 ∷ 76 ∷ 77 ∷ 78 ∷ 79 ∷ []

abbrev pub down_vector : List ℕ
down_vector = 80 ∷ 81 ∷ 82 ∷ 83 ∷ 84 ∷ 85 ∷ 86 ∷ 87 ∷ 88 ∷ 89 ∷ 90 ∷ 91 ∷ 92 ∷ 93 ∷ 94 ∷ 95 ∷ []

abbrev pub up_tek : List ℕ
up_tek = 96 ∷ 97 ∷ 98 ∷ 99 ∷ 100 ∷ 101 ∷ 102 ∷ 103 ∷ 104 ∷ 105 ∷ 106 ∷ 107 ∷ 108 ∷ 109 ∷ 110 ∷ 111 ∷ []

abbrev pub up_vector : List ℕ
up_vector = 112 ∷ 113 ∷ 114 ∷ 115 ∷ 116 ∷ 117 ∷ 118 ∷ 119 ∷ 120 ∷ 121 ∷ 122 ∷ 123 ∷ 124 ∷ 125 ∷ 126 ∷ 127 ∷ []

-- ---- the frames: 0, 1, 2 and so on, and 200, 201 and so on for one that a cipher block seals; and each sealed with the one key and the other
abbrev pub plain12 : List ℕ
plain12 = counting 0 12

abbrev pub plain13 : List ℕ
plain13 = counting 0 13

abbrev pub plain28 : List ℕ
plain28 = counting 0 28

abbrev pub plain60 : List ℕ
plain60 = counting 0 60

abbrev pub plain_other : List ℕ
plain_other = counting 200 28

abbrev pub down13 : List ℕ
down13 =
    0 ∷ 1 ∷ 2 ∷ 3 ∷ 4 ∷ 5 ∷ 6 ∷ 7 ∷ 8 ∷ 9 ∷ 10 ∷ 11
    ∷ 202 ∷ []

abbrev pub down28 : List ℕ
down28 =
    0 ∷ 1 ∷ 2 ∷ 3 ∷ 4 ∷ 5 ∷ 6 ∷ 7 ∷ 8 ∷ 9 ∷ 10 ∷ 11
    ∷ 63 ∷ 138 ∷ 102 ∷ 47 ∷ 196 ∷ 155 ∷ 158 ∷ 13 ∷ 51 ∷ 83 ∷ 137 ∷ 211 ∷ 29 ∷ 195 ∷ 84 ∷ 140 ∷ []

abbrev pub down60 : List ℕ
down60 =
    0 ∷ 1 ∷ 2 ∷ 3 ∷ 4 ∷ 5 ∷ 6 ∷ 7 ∷ 8 ∷ 9 ∷ 10 ∷ 11
    ∷ 63 ∷ 138 ∷ 102 ∷ 47 ∷ 196 ∷ 155 ∷ 158 ∷ 13 ∷ 51 ∷ 83 ∷ 137 ∷ 211 ∷ 29 ∷ 195 ∷ 84 ∷ 140
    ∷ 47 ∷ 182 ∷ 19 ∷ 34 ∷ 184 ∷ 197 ∷ 228 ∷ 241 ∷ 89 ∷ 222 ∷ 254 ∷ 128 ∷ 150 ∷ 17 ∷ 153 ∷ 53
    ∷ 213 ∷ 0 ∷ 116 ∷ 97 ∷ 103 ∷ 195 ∷ 45 ∷ 50 ∷ 11 ∷ 18 ∷ 180 ∷ 194 ∷ 153 ∷ 175 ∷ 239 ∷ 5 ∷ []

abbrev pub down_other : List ℕ
down_other =
    200 ∷ 201 ∷ 202 ∷ 203 ∷ 204 ∷ 205 ∷ 206 ∷ 207 ∷ 208 ∷ 209 ∷ 210 ∷ 211
    ∷ 248 ∷ 88 ∷ 106 ∷ 149 ∷ 69 ∷ 1 ∷ 228 ∷ 155 ∷ 172 ∷ 39 ∷ 135 ∷ 121 ∷ 67 ∷ 4 ∷ 103 ∷ 46 ∷ []

abbrev pub up13 : List ℕ
up13 =
    0 ∷ 1 ∷ 2 ∷ 3 ∷ 4 ∷ 5 ∷ 6 ∷ 7 ∷ 8 ∷ 9 ∷ 10 ∷ 11
    ∷ 252 ∷ []

abbrev pub up28 : List ℕ
up28 =
    0 ∷ 1 ∷ 2 ∷ 3 ∷ 4 ∷ 5 ∷ 6 ∷ 7 ∷ 8 ∷ 9 ∷ 10 ∷ 11
    ∷ 7 ∷ 210 ∷ 7 ∷ 187 ∷ 109 ∷ 245 ∷ 51 ∷ 50 ∷ 253 ∷ 72 ∷ 72 ∷ 97 ∷ 111 ∷ 199 ∷ 117 ∷ 173 ∷ []

abbrev pub up60 : List ℕ
up60 =
    0 ∷ 1 ∷ 2 ∷ 3 ∷ 4 ∷ 5 ∷ 6 ∷ 7 ∷ 8 ∷ 9 ∷ 10 ∷ 11
    ∷ 7 ∷ 210 ∷ 7 ∷ 187 ∷ 109 ∷ 245 ∷ 51 ∷ 50 ∷ 253 ∷ 72 ∷ 72 ∷ 97 ∷ 111 ∷ 199 ∷ 117 ∷ 173
    ∷ 44 ∷ 7 ∷ 233 ∷ 9 ∷ 66 ∷ 47 ∷ 114 ∷ 113 ∷ 185 ∷ 63 ∷ 88 ∷ 226 ∷ 80 ∷ 168 ∷ 219 ∷ 172
    ∷ 123 ∷ 31 ∷ 31 ∷ 120 ∷ 216 ∷ 64 ∷ 199 ∷ 235 ∷ 52 ∷ 252 ∷ 246 ∷ 97 ∷ 120 ∷ 240 ∷ 170 ∷ 206 ∷ []

abbrev pub up_other : List ℕ
up_other =
    200 ∷ 201 ∷ 202 ∷ 203 ∷ 204 ∷ 205 ∷ 206 ∷ 207 ∷ 208 ∷ 209 ∷ 210 ∷ 211
    ∷ 57 ∷ 101 ∷ 129 ∷ 118 ∷ 15 ∷ 242 ∷ 208 ∷ 157 ∷ 181 ∷ 129 ∷ 43 ∷ 46 ∷ 27 ∷ 143 ∷ 140 ∷ 152 ∷ []

-- ---- each sealing, one in a declaration. A frame of 12 octets stays as it is
pub down12_seals : seal_aes down_tek down_vector plain12 ≡ plain12
unfolding ciphering
down12_seals = refl

pub down13_seals : seal_aes down_tek down_vector plain13 ≡ down13
unfolding ciphering
down13_seals = refl

pub down28_seals : seal_aes down_tek down_vector plain28 ≡ down28
unfolding ciphering
down28_seals = refl

pub down60_seals : seal_aes down_tek down_vector plain60 ≡ down60
unfolding ciphering
down60_seals = refl

pub down_other_seals : seal_aes down_tek down_vector plain_other ≡ down_other
unfolding ciphering
down_other_seals = refl

pub up12_seals : seal_aes up_tek up_vector plain12 ≡ plain12
unfolding ciphering
up12_seals = refl

pub up13_seals : seal_aes up_tek up_vector plain13 ≡ up13
unfolding ciphering
up13_seals = refl

pub up28_seals : seal_aes up_tek up_vector plain28 ≡ up28
unfolding ciphering
up28_seals = refl

pub up60_seals : seal_aes up_tek up_vector plain60 ≡ up60
unfolding ciphering
up60_seals = refl

pub up_other_seals : seal_aes up_tek up_vector plain_other ≡ up_other
unfolding ciphering
up_other_seals = refl

-- ---- a frame with its key, sealed and opened
pub record Ciphered : Type 0 where
  pub tek : List ℕ
  pub vector : List ℕ
  pub plain : List ℕ
  pub sealed : List ℕ
  pub seals : seal_aes tek vector plain ≡ sealed
  pub opens : open_aes tek vector sealed ≡ plain

abbrev are_octets_of : List ℕ → Bool
are_octets_of [] = true
are_octets_of (x ∷ s) = ltb x 256 && are_octets_of s

are_octets : (s : List ℕ) → are_octets_of s ≡ true → Octets s
are_octets [] e = tt
are_octets (x ∷ s) e = let p = both (ltb x 256) (are_octets_of s) e in (ltb-true x 256 p.0, are_octets s p.1)

abbrev is_block_of : List ℕ → Bool
is_block_of s = eqb (length s) 16 && are_octets_of s

is_block : (s : List ℕ) → is_block_of s ≡ true → Block s
is_block s e = let p = both (eqb (length s) 16) (are_octets_of s) e in (eqb-true (length s) 16 p.0, are_octets s p.1)

abbrev fits : List ℕ → List ℕ → List ℕ → Bool
fits tek vector plain = is_block_of tek && is_block_of vector && are_octets_of plain && leb 12 (length plain)

pub opens_back : (tek vector plain sealed : List ℕ) → fits tek vector plain ≡ true → seal_aes tek vector plain ≡ sealed → open_aes tek vector sealed ≡ plain
opens_back tek vector plain sealed e s =
    let p₃ = both (is_block_of tek && is_block_of vector && are_octets_of plain) (leb 12 (length plain)) e in
    let p₂ = both (is_block_of tek && is_block_of vector) (are_octets_of plain) p₃.0 in
    let p₁ = both (is_block_of tek) (is_block_of vector) p₂.0 in
    ap (open_aes tek vector) (sym s)
    ∙ aes_opened tek vector plain (is_block tek p₁.0) (is_block vector p₁.1) (are_octets plain p₂.1) (leb-true 12 (length plain) p₃.1)

abbrev ciphered : (tek vector plain sealed : List ℕ) → fits tek vector plain ≡ true → seal_aes tek vector plain ≡ sealed → Ciphered
ciphered tek vector plain sealed e s =
    record { tek = tek; vector = vector; plain = plain; sealed = sealed; seals = s; opens = opens_back tek vector plain sealed e s }

abbrev pub cipherings : List Ciphered
cipherings =
    ciphered down_tek down_vector plain12 plain12 refl down12_seals
    ∷ ciphered down_tek down_vector plain13 down13 refl down13_seals
    ∷ ciphered down_tek down_vector plain28 down28 refl down28_seals
    ∷ ciphered down_tek down_vector plain60 down60 refl down60_seals
    ∷ ciphered down_tek down_vector plain_other down_other refl down_other_seals
    ∷ ciphered up_tek up_vector plain12 plain12 refl up12_seals
    ∷ ciphered up_tek up_vector plain13 up13 refl up13_seals
    ∷ ciphered up_tek up_vector plain28 up28 refl up28_seals
    ∷ ciphered up_tek up_vector plain60 up60 refl up60_seals
    ∷ ciphered up_tek up_vector plain_other up_other refl up_other_seals
    ∷ []

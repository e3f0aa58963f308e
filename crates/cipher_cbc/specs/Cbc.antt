-- NIST 800-38A, 6.2, and document 000, 11.1 and I.7: CBC with the residual block, on frames whose first 12 octets stay clear. `e` encrypts a block
-- of 16 octets, `d` decrypts one.
use Rattle.std.specs.Prelude.{ℕ, zero, suc, ◌/◌, List, ◌++◌, length, take, drop}
use Rattle.cipher_aes.specs.Field.{xors}
use Rattle.cipher_aes.specs.Cipher.{cipher, inv_cipher}
use Rattle.cipher_aes.specs.Keys.{round_key}

-- 800-38A 6.2: n whole blocks of p, one after the other: `out v b` is written for the block b behind v, and `next v b` takes v's place.
-- 11.1: what is left, less than a block, is added to the left-most octets of the last v, encrypted
unfoldable pub chained_blocks : (List ℕ → List ℕ → List ℕ) → (List ℕ → List ℕ → List ℕ) → (List ℕ → List ℕ)
    → ℕ → List ℕ → List ℕ → List ℕ
chained_blocks out next e zero v p = xors p (e v)
chained_blocks out next e (suc n) v p =
    out v (take 16 p) ++ chained_blocks out next e n (next v (take 16 p)) (drop 16 p)

-- I.7: all of the frame f but its first 12 octets, which stay
unfoldable pub frame : (List ℕ → List ℕ → List ℕ) → (List ℕ → List ℕ → List ℕ) → (List ℕ → List ℕ)
    → List ℕ → List ℕ → List ℕ
frame out next e v f = take 12 f ++ chained_blocks out next e (length (drop 12 f) / 16) v (drop 12 f)

-- 800-38A 6.2, CBC encryption: a block is added to the ciphertext block before it, the first to the vector v, and encrypted
unfoldable pub seal_frame_of : (List ℕ → List ℕ) → List ℕ → List ℕ → List ℕ
seal_frame_of e v f = frame (λ u b. e (xors b u)) (λ u b. e (xors b u)) e v f

-- 800-38A 6.2, CBC decryption: a block is decrypted, and the ciphertext block before it added, or the vector v
unfoldable pub open_frame_of : (List ℕ → List ℕ) → (List ℕ → List ℕ) → List ℕ → List ℕ → List ℕ
open_frame_of e d v f = frame (λ u b. xors (d b) u) (λ u b. b) e v f

-- I.10: the frame f sealed with AES under a key and a vector of 16 octets
unfoldable pub seal_aes : List ℕ → List ℕ → List ℕ → List ℕ
seal_aes key v f = seal_frame_of (cipher (round_key key)) v f

-- I.10: the frame f opened with AES
unfoldable pub open_aes : List ℕ → List ℕ → List ℕ → List ℕ
open_aes key v f = open_frame_of (cipher (round_key key)) (inv_cipher (round_key key)) v f

-- Round keys, and what the cipher and its inverse give, have 16 octets; decrypting under a key undoes encrypting; and schedules that agree up to
-- round 10 give the same.
use mathlib.Core.Path.{◌≡◌, refl, ap, ap₂, ◌∙◌}
use mathlib.Core.List.{List, [], ◌∷◌, ◌++◌}
use Prim.Native.Nat.{ℕ, zero, suc, ◌+◌, ◌<◌, ◌≤◌}
use native.Mathlib.Omega.{arith}
use lib.Dec.{lit<}
use lib.ListN.{length, get_or, take, drop, length-append, length-drop}
use lib.Seq.{length-take-le}
use Rattle.cipher_aes.specs.Field.{xors, Octets, Block}
use Rattle.cipher_aes.specs.Sbox.{sub, sub_bytes, inv_sub_bytes}
use Rattle.cipher_aes.specs.Keys.{rcons, rcon, substituted_rotated_of, word_at, chained, next_key_of, round_key}
use Rattle.cipher_aes.specs.Cipher.{shift_rows, inv_shift_rows, add_round_key_of, round, final_round_of, rounds, cipher, inv_round_of, inv_rounds, inv_final_of, inv_cipher}
use Rattle.cipher_aes.proofs.StepLaws.{octet_at, octets_append, sub_octet, shift_length, inv_shift_length, xor_octets, xor_length}
use Rattle.cipher_aes.proofs.InverseLaws.{cipher_block, cipher_undone}

-- four octets
abbrev Word : List ℕ → Type 0
Word s = (length s ≡ 4) × Octets s

xor_word : (s t : List ℕ) → Word s → Word t → Word (xors s t)
xor_word s t p q = (xor_length s t (omega arith) ∙ p.0, xor_octets s t p.1 q.1)

pub octets_take : (n : ℕ) (s : List ℕ) → Octets s → Octets (take n s)
octets_take zero s o = tt
octets_take (suc n) [] o = tt
octets_take (suc n) (x ∷ s) o = (o.0, octets_take n s o.1)

pub octets_drop : (n : ℕ) (s : List ℕ) → Octets s → Octets (drop n s)
octets_drop zero s o = o
octets_drop (suc n) [] o = tt
octets_drop (suc n) (x ∷ s) o = octets_drop n s o.1

word-at : (i : ℕ) (k : List ℕ) → i + 4 ≤ 16 → Block k → Word (word_at i k)
word-at i k h b =
    let l : 4 ≤ length (drop i k) = simp length-drop (omega arith) in
    (length-take-le 4 (drop i k) l, octets_take 4 (drop i k) (octets_drop i k b.1))

rcons_octets : Octets rcons
unfolding rcons
rcons_octets =
    (lit< tt, (lit< tt, (lit< tt, (lit< tt, (lit< tt, (lit< tt, (lit< tt, (lit< tt, (lit< tt, (lit< tt, tt))))))))))

pub rcon_octet : (n : ℕ) → rcon n < 256
unfolding rcon
rcon_octet n = octet_at rcons rcons_octets n

substituted_rotated_word : (rc : ℕ) (k : List ℕ) → rc < 256 → Octets k → Word (substituted_rotated_of rc k)
unfolding substituted_rotated_of
substituted_rotated_word rc k h o =
    let s : (i : ℕ) → sub (get_or k i 0) < 256 = λ i. sub_octet (get_or k i 0) (octet_at k o i) in
    let z : 0 < 256 = omega arith in
    xor_word (sub (get_or k 13 0) ∷ sub (get_or k 14 0) ∷ sub (get_or k 15 0) ∷ sub (get_or k 12 0) ∷ []) (rc ∷ 0 ∷ 0 ∷ 0 ∷ [])
    (refl, (s 13, (s 14, (s 15, (s 12, tt))))) (refl, (h, (z, (z, (z, tt)))))

-- lengths alone, whatever the elements are
four_length : (s t : List ℕ) → length s ≡ 4 → length t ≡ 4 → length (xors s t) ≡ 4
four_length s t p q = xor_length s t (omega arith) ∙ p

word_length : (i : ℕ) (k : List ℕ) → i + 4 ≤ length k → length (word_at i k) ≡ 4
word_length i k h =
    let l : 4 ≤ length (drop i k) = simp length-drop (omega arith) in
    length-take-le 4 (drop i k) l

chained_length : (t k : List ℕ) → length t ≡ 4 → length k ≡ 16 → length (chained t k) ≡ 16
unfolding chained
chained_length t k p h =
    let x = xors (word_at 0 k) t in
    let y = xors (word_at 4 k) x in
    let z = xors (word_at 8 k) y in
    let a : length x ≡ 4 = four_length (word_at 0 k) t (word_length 0 k (omega arith)) p in
    let b : length y ≡ 4 = four_length (word_at 4 k) x (word_length 4 k (omega arith)) a in
    let c : length z ≡ 4 = four_length (word_at 8 k) y (word_length 8 k (omega arith)) b in
    let d : length (xors (word_at 12 k) z) ≡ 4 = four_length (word_at 12 k) z (word_length 12 k (omega arith)) c in
    simp length-append (omega arith)

substituted_length : (rc : ℕ) (k : List ℕ) → length (substituted_rotated_of rc k) ≡ 4
unfolding substituted_rotated_of xors
substituted_length rc k = refl

pub key_length : (key : List ℕ) → length key ≡ 16 → (n : ℕ) → length (round_key key n) ≡ 16
unfolding round_key next_key_of
key_length key h zero = h
key_length key h (suc n) =
    chained_length (substituted_rotated_of (rcon n) (round_key key n)) (round_key key n) (substituted_length (rcon n) (round_key key n)) (key_length key h n)

final_length : (k s : List ℕ) → length k ≡ 16 → length (final_round_of k s) ≡ 16
unfolding final_round_of
final_length k s h =
    let n : length (shift_rows (sub_bytes s)) ≡ 16 = shift_length (sub_bytes s) in
    xor_length (shift_rows (sub_bytes s)) k (omega arith) ∙ n

inv_final_length : (k s : List ℕ) → length k ≡ 16 → length (inv_final_of k s) ≡ 16
unfolding inv_final_of
inv_final_length k s h =
    let n : length (inv_sub_bytes (inv_shift_rows s)) ≡ 16 = inv_shift_length s in
    xor_length (inv_sub_bytes (inv_shift_rows s)) k (omega arith) ∙ n

pub cipher_length : (key s : List ℕ) → length key ≡ 16 → length (cipher (round_key key) s) ≡ 16
unfolding cipher
cipher_length key s h = final_length (round_key key 10) _ (key_length key h 10)

pub inverse_length : (key s : List ℕ) → length key ≡ 16 → length (inv_cipher (round_key key) s) ≡ 16
unfolding inv_cipher
inverse_length key s h = inv_final_length (round_key key 0) _ (key_length key h 0)

-- ---- with octets

chained_block : (t k : List ℕ) → Word t → Block k → Block (chained t k)
unfolding chained
chained_block t k p b =
    let x = xors (word_at 0 k) t in
    let y = xors (word_at 4 k) x in
    let z = xors (word_at 8 k) y in
    let a : Word x = xor_word (word_at 0 k) t (word-at 0 k (omega arith) b) p in
    let c : Word y = xor_word (word_at 4 k) x (word-at 4 k (omega arith) b) a in
    let d : Word z = xor_word (word_at 8 k) y (word-at 8 k (omega arith) b) c in
    let e : Word (xors (word_at 12 k) z) = xor_word (word_at 12 k) z (word-at 12 k (omega arith) b) d in
    joined x y z (xors (word_at 12 k) z) a c d e
  where
    joined : (a b c d : List ℕ) → Word a → Word b → Word c → Word d → Block (a ++ b ++ c ++ d)
    joined a b c d p q r s =
        (simp length-append (omega arith), octets_append (a ++ b ++ c) d (octets_append (a ++ b) c (octets_append a b p.1 q.1) r.1) s.1)

pub key-block : (key : List ℕ) → Block key → (n : ℕ) → Block (round_key key n)
unfolding round_key next_key_of
key-block key b zero = b
key-block key b (suc n) =
    let k = key-block key b n in
    chained_block (substituted_rotated_of (rcon n) (round_key key n)) (round_key key n) (substituted_rotated_word (rcon n) (round_key key n) (rcon_octet n) k.1) k

-- for every key and block: decrypting gives back what was encrypted
pub aes_undone : (key s : List ℕ) → Block key → Block s → inv_cipher (round_key key) (cipher (round_key key) s) ≡ s
aes_undone key s k b = cipher_undone (round_key key) s (key-block key k) b

pub aes_block : (key s : List ℕ) → Block key → Block s → Block (cipher (round_key key) s)
aes_block key s k b = cipher_block (round_key key) s (key-block key k) b

module _ (w v : ℕ → List ℕ) (e : (i : ℕ) → i < 11 → w i ≡ v i) where
  rounds_agree : (n : ℕ) (s : List ℕ) → n < 11 → rounds w n s ≡ rounds v n s
  unfolding rounds
  rounds_agree zero s h = refl
  rounds_agree (suc n) s h =
      let m : n < 11 = omega arith in
      ap₂ round (e (suc n) h) (rounds_agree n s m)

  pub cipher_agrees : (s : List ℕ) → cipher w s ≡ cipher v s
  unfolding cipher
  cipher_agrees s =
      ap₂ final_round_of (e 10 (omega arith)) (rounds_agree 9 _ (omega arith) ∙ ap (λ (k : List ℕ). rounds v 9 (add_round_key_of k s)) (e 0 (omega arith)))

  inv_rounds_agree : (n : ℕ) (s : List ℕ) → n < 11 → inv_rounds w n s ≡ inv_rounds v n s
  unfolding inv_rounds
  inv_rounds_agree zero s h = refl
  inv_rounds_agree (suc n) s h =
      let m : n < 11 = omega arith in
      inv_rounds_agree n _ m ∙ ap (λ (k : List ℕ). inv_rounds v n (inv_round_of k s)) (e (suc n) h)

  pub inverse_agrees : (s : List ℕ) → inv_cipher w s ≡ inv_cipher v s
  unfolding inv_cipher
  inverse_agrees s =
      ap₂ inv_final_of (e 0 (omega arith)) (inv_rounds_agree 9 _ (omega arith) ∙ ap (λ (k : List ℕ). inv_rounds v 9 (add_round_key_of k s)) (e 10 (omega arith)))

-- Decrypting gives back what was encrypted, for every block and every key.
use mathlib.Core.Path.{◌≡◌, refl, ap, ◌∙◌}
use mathlib.Core.List.{List}
use Prim.Native.Nat.{ℕ, zero, suc}
use native.Mathlib.Omega.{arith}
use Rattle.cipher_aes.specs.Field.{xors, Block}
use Rattle.cipher_aes.specs.Sbox.{sub_bytes, inv_sub_bytes}
use Rattle.cipher_aes.specs.Cipher.{shift_rows, inv_shift_rows, inv_mix_columns, round, final_round_of, rounds, cipher, inv_round_of, inv_rounds, inv_final_of, inv_cipher}
use Rattle.cipher_aes.proofs.StepLaws.{sub_block, sub_undone, shift_block, shift_undone, mix_block, mix_undone, xor_block, xor_undone}

-- the round keys are blocks
abbrev pub Schedule : (ℕ → List ℕ) → Type 0
Schedule w = (i : ℕ) → Block (w i)

-- SubBytes and ShiftRows
abbrev moved : List ℕ → List ℕ
moved s = shift_rows (sub_bytes s)

moved_block : (s : List ℕ) → Block s → Block (moved s)
moved_block s b = shift_block (sub_bytes s) (sub_block s b)

moved_undone : (s : List ℕ) → Block s → inv_sub_bytes (inv_shift_rows (moved s)) ≡ s
moved_undone s b = ap inv_sub_bytes (shift_undone (sub_bytes s) (sub_block s b).0) ∙ sub_undone s b.1

xor_gone : (s k : List ℕ) → Block s → Block k → xors (xors s k) k ≡ s
xor_gone s k b p = xor_undone s k (omega arith)

round_block : (k s : List ℕ) → Block k → Block s → Block (round k s)
unfolding round
round_block k s p b = xor_block _ _ (mix_block (moved s) (moved_block s b)) p

rounds_block : (w : ℕ → List ℕ) (n : ℕ) (s : List ℕ) → Schedule w → Block s → Block (rounds w n s)
unfolding rounds
rounds_block w zero s p b = b
rounds_block w (suc n) s p b = round_block (w (suc n)) (rounds w n s) (p (suc n)) (rounds_block w n s p b)

pub cipher_block : (w : ℕ → List ℕ) (s : List ℕ) → Schedule w → Block s → Block (cipher w s)
unfolding cipher final_round_of
cipher_block w s p b = xor_block _ _ (moved_block _ (rounds_block w 9 (xors s (w 0)) p (xor_block s (w 0) b (p 0)))) (p 10)

-- a round undone, from one State before its AddRoundKey to the one before
round_undone : (k s : List ℕ) → Block k → Block s → inv_round_of k (moved (round k s)) ≡ moved s
unfolding inv_round_of round
round_undone k s p b =
    ap (λ (x : List ℕ). inv_mix_columns (xors x k)) (moved_undone _ (round_block k s p b))
    ∙ ap inv_mix_columns (xor_gone _ k (mix_block (moved s) (moved_block s b)) p)
    ∙ mix_undone (moved s) (moved_block s b)

rounds_undone : (w : ℕ → List ℕ) (n : ℕ) (s : List ℕ) → Schedule w → Block s → inv_rounds w n (moved (rounds w n s)) ≡ moved s
unfolding rounds inv_rounds
rounds_undone w zero s p b = refl
rounds_undone w (suc n) s p b =
    ap (inv_rounds w n) (round_undone (w (suc n)) (rounds w n s) (p (suc n)) (rounds_block w n s p b)) ∙ rounds_undone w n s p b

pub cipher_undone : (w : ℕ → List ℕ) (s : List ℕ) → Schedule w → Block s → inv_cipher w (cipher w s) ≡ s
unfolding cipher inv_cipher final_round_of inv_final_of
cipher_undone w s p b =
    ap (λ (x : List ℕ). xors (inv_sub_bytes (inv_shift_rows (inv_rounds w 9 x))) (w 0)) (xor_gone _ (w 10) (moved_block _ (rounds_block w 9 (xors s (w 0)) p (xor_block s (w 0) b (p 0)))) (p 10))
    ∙ ap (λ (x : List ℕ). xors (inv_sub_bytes (inv_shift_rows x)) (w 0)) (rounds_undone w 9 (xors s (w 0)) p (xor_block s (w 0) b (p 0)))
    ∙ ap (λ (x : List ℕ). xors x (w 0)) (moved_undone _ (xor_block s (w 0) b (p 0)))
    ∙ xor_gone s (w 0) b (p 0)

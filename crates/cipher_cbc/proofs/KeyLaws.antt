-- Sealing and opening with the words of a schedule are sealing and opening under its key.
use mathlib.Core.Path.{◌≡◌, refl, ap, ap₂, ◌∙◌}
use mathlib.Core.List.{List, ◌++◌}
use Prim.Native.Nat.{ℕ, zero, suc, ◌/◌, ◌<◌}
use native.Mathlib.Omega.{arith}
use lib.ListN.{length, take, drop}
use lib.Seq.{take_all}
use Rattle.cipher_aes.specs.Field.{xors}
use Rattle.cipher_aes.specs.Cipher.{cipher, inv_cipher, eq_inv_cipher, inv_mix_columns}
use Rattle.cipher_aes.specs.Keys.{round_key}
use Rattle.cipher_aes.specs.Words.{word, state, key_at}
use Rattle.cipher_aes.specs.declared.words.State.{State}
use Rattle.cipher_aes.proofs.EquivalentLaws.{eq_inverse}
use Rattle.cipher_aes.proofs.CipherLaws.{cipher_agrees, inverse_agrees}
use Rattle.cipher_cbc.specs.Cbc.{chained_blocks, frame, seal_frame_of, open_frame_of, seal_aes, open_aes}

module _ (o n o' n' : List ℕ → List ℕ → List ℕ) (e e' : List ℕ → List ℕ) (ho : (u b : List ℕ) → o u b ≡ o' u b)
    (hn : (u b : List ℕ) → n u b ≡ n' u b) (he : (v : List ℕ) → e v ≡ e' v) where
  chained_agrees : (k : ℕ) (v p : List ℕ) → chained_blocks o n e k v p ≡ chained_blocks o' n' e' k v p
  unfolding chained_blocks
  chained_agrees zero v p = ap (xors p) (he v)
  chained_agrees (suc k) v p =
      ap₂ (λ (x y : List ℕ). x ++ y) (ho v (take 16 p))
      (chained_agrees k (n v (take 16 p)) (drop 16 p) ∙ ap (λ (x : List ℕ). chained_blocks o' n' e' k x (drop 16 p)) (hn v (take 16 p)))

  frame_agrees : (v f : List ℕ) → frame o n e v f ≡ frame o' n' e' v f
  unfolding frame
  frame_agrees v f = ap (λ (x : List ℕ). take 12 f ++ x) (chained_agrees (length (drop 12 f) / 16) v (drop 12 f))

words_length : (w : List State) (i : ℕ) → length (key_at w i) ≡ 16
unfolding key_at state word
words_length w i = refl

module _ (key : List ℕ) (w : List State) (h : (i : ℕ) → i < 11 → key_at w i ≡ round_key key i) where
  cipher_of_key : (s : List ℕ) → cipher (key_at w) s ≡ cipher (round_key key) s
  cipher_of_key = cipher_agrees (key_at w) (round_key key) h

  pub seal_agrees : (v f : List ℕ) → seal_frame_of (cipher (key_at w)) v f ≡ seal_aes key v f
  unfolding seal_aes seal_frame_of
  seal_agrees v f = frame_agrees _ _ _ _ _ _ (λ u b. cipher_of_key (xors b u)) (λ u b. cipher_of_key (xors b u)) cipher_of_key v f

  pub open_agrees : (x : List State) (v f : List ℕ) → ((i : ℕ) → i < 11 → key_at x i ≡ inv_mix_columns (key_at w i))
      → open_frame_of (cipher (key_at w)) (eq_inv_cipher (key_at w) (key_at x)) v f ≡ open_aes key v f
  unfolding open_aes open_frame_of
  open_agrees x v f e =
      let inverse-of-key : (s : List ℕ) → eq_inv_cipher (key_at w) (key_at x) s ≡ inv_cipher (round_key key) s =
      λ s. eq_inverse (key_at w) (key_at x) (words_length w) e s ∙ inverse_agrees (key_at w) (round_key key) h s in
      frame_agrees _ _ _ _ _ _ (λ u b. ap (λ (s : List ℕ). xors s u) (inverse-of-key b)) (λ u b. refl) cipher_of_key v f

-- the whole of a list of 16
all_of : (s : List ℕ) → length s ≡ 16 → take 16 (drop 0 s) ≡ s
all_of s h = take_all 16 s (omega arith)

-- with key and vector loaded off lists of 16
module _ (key vector : List ℕ) (w : List State) (k v : State) (hk : length key ≡ 16) (hv : length vector ≡ 16) (ek : state k ≡ take 16 (drop 0 key))
    (ev : state v ≡ take 16 (drop 0 vector)) (h : (i : ℕ) → i < 11 → key_at w i ≡ round_key (state k) i) where
  key_of : (i : ℕ) → i < 11 → key_at w i ≡ round_key key i
  key_of i l = h i l ∙ ap (λ (x : List ℕ). round_key x i) (ek ∙ all_of key hk)

  pub seal_loaded : (f o r : List ℕ) → o ≡ seal_frame_of (cipher (key_at w)) (state v) f ++ r → o ≡ seal_aes key vector f ++ r
  seal_loaded f o r p =
      p ∙ ap (λ (l : List ℕ). l ++ r) (seal_agrees key w key_of (state v) f ∙ ap (λ (x : List ℕ). seal_aes key x f) (ev ∙ all_of vector hv))

  pub open_loaded : (x : List State) (f o r : List ℕ) → ((i : ℕ) → i < 11 → key_at x i ≡ inv_mix_columns (key_at w i))
      → o ≡ open_frame_of (cipher (key_at w)) (eq_inv_cipher (key_at w) (key_at x)) (state v) f ++ r → o ≡ open_aes key vector f ++ r
  open_loaded x f o r e p =
      p ∙ ap (λ (l : List ℕ). l ++ r) (open_agrees key w key_of x (state v) f e ∙ ap (λ (y : List ℕ). open_aes key y f) (ev ∙ all_of vector hv))

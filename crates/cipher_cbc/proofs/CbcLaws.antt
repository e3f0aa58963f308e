-- Laws of sealed and opened frames: opening gives back what was sealed; the length stays; a frame of 12 octets stays; octets stay octets.
use mathlib.Core.Path.{◌≡◌, sym, ap, ◌∙◌}
use mathlib.Core.List.{List, [], ◌++◌, append-nil}
use Prim.Native.Nat.{ℕ, zero, suc, ◌+◌, ◌-◌, ◌*◌, ◌/◌, ◌<◌, ◌≤◌}
use native.Mathlib.Omega.{arith}
use lib.ListN.{length, take, drop, length-append, length-drop, take-append-drop, drop_of_length-le}
use lib.Seq.{length-take-le, take_all}
use Rattle.cipher_aes.specs.Field.{xors, Octets, Block}
use Rattle.cipher_aes.specs.Cipher.{cipher, inv_cipher}
use Rattle.cipher_aes.specs.Keys.{round_key}
use Rattle.cipher_aes.proofs.StepLaws.{octets_append, xor_length, xor_octets, xor_block}
use Rattle.cipher_aes.proofs.CipherLaws.{octets_take, octets_drop, aes_undone, aes_block, cipher_length, inverse_length}
use Rattle.cipher_cbc.specs.Cbc.{chained_blocks, frame, seal_frame_of, open_frame_of, seal_aes, open_aes}
use Rattle.cipher_cbc.proofs.OpenedLaws.{opened}

-- for every key, vector and frame of at least 12 octets, opening gives back what was sealed
pub aes_opened : (key v f : List ℕ) → Block key → Block v → Octets f → 12 ≤ length f → open_aes key v (seal_aes key v f) ≡ f
unfolding seal_aes open_aes
aes_opened key v f k b o h = opened (cipher (round_key key)) (inv_cipher (round_key key)) (λ s. aes_block key s k) (λ s. aes_undone key s k) v f b o h

-- ---- the length, where every block that stands for v has what P says
module _ (out next : List ℕ → List ℕ → List ℕ) (e : List ℕ → List ℕ) (P : List ℕ → Type 0)
    (ho : (u b : List ℕ) → P u → length b ≡ 16 → length (out u b) ≡ 16) (hn : (u b : List ℕ) → P u → length b ≡ 16 → P (next u b))
    (he : (v : List ℕ) → length (e v) ≡ 16) where
  blocks_length : (n : ℕ) (v p : List ℕ) → P v → n * 16 ≤ length p → length p < n * 16 + 16
      → length (chained_blocks out next e n v p) ≡ length p
  unfolding chained_blocks
  blocks_length zero v p b h k =
      let l : length (e v) ≡ 16 = he v in
      xor_length p (e v) (omega arith)
  blocks_length (suc n) v p b h k =
      let q = take 16 p in
      let r = drop 16 p in
      let m : length q ≡ 16 = length-take-le 16 p (omega arith) in
      let g : length r ≡ length p - 16 = length-drop 16 p in
      let o : length (out v q) ≡ 16 = ho v q b m in
      let i : length (chained_blocks out next e n (next v q) r) ≡ length r =
      blocks_length n (next v q) r (hn v q b m) (omega arith) (omega arith) in
      length-append (out v q) (chained_blocks out next e n (next v q) r) ∙ omega arith

  frame_length : (v f : List ℕ) → P v → length (frame out next e v f) ≡ length f
  unfolding frame
  frame_length v f b =
      let p = drop 12 f in
      length-append (take 12 f) (chained_blocks out next e (length p / 16) v p)
      ∙ ap (λ (n : ℕ). length (take 12 f) + n) (blocks_length (length p / 16) v p b (omega arith) (omega arith))
      ∙ sym (length-append (take 12 f) p)
      ∙ ap length (take-append-drop 12 f)

pub seal_length : (key v f : List ℕ) → length key ≡ 16 → length (seal_aes key v f) ≡ length f
unfolding seal_aes seal_frame_of
seal_length key v f h =
    let e = cipher (round_key key) in
    frame_length (λ u b. e (xors b u)) (λ u b. e (xors b u)) e (λ u. Unit) (λ u b p q. cipher_length key (xors b u) h) (λ u b p q. tt)
    (λ s. cipher_length key s h) v f tt

pub open_length : (key v f : List ℕ) → length key ≡ 16 → length v ≡ 16 → length (open_aes key v f) ≡ length f
unfolding open_aes open_frame_of
open_length key v f h k =
    let e = cipher (round_key key) in
    let d = inv_cipher (round_key key) in
    frame_length (λ u b. xors (d b) u) (λ u b. b) e (λ u. length u ≡ 16) (λ u b p q. opened_length u b p) (λ u b p q. q) (λ s. cipher_length key s h) v f k
  where
    opened_length : (u b : List ℕ) → length u ≡ 16 → length (xors (inv_cipher (round_key key) b) u) ≡ 16
    opened_length u b p =
        let n : length (inv_cipher (round_key key) b) ≡ 16 = inverse_length key b h in
        xor_length (inv_cipher (round_key key) b) u (omega arith) ∙ n

-- ---- a frame that is its addresses alone
frame_12 : (out next : List ℕ → List ℕ → List ℕ) (e : List ℕ → List ℕ) (v f : List ℕ) → length f ≡ 12 → frame out next e v f ≡ f
unfolding frame chained_blocks xors
frame_12 out next e v f h =
    let d : drop 12 f ≡ [] = drop_of_length-le f {i = 12} (omega arith) in
    ap (λ (p : List ℕ). take 12 f ++ chained_blocks out next e (length p / 16) v p) d
    ∙ append-nil (take 12 f)
    ∙ take_all 12 f (omega arith)

pub sealed_12 : (key v f : List ℕ) → length f ≡ 12 → seal_aes key v f ≡ f
unfolding seal_aes seal_frame_of
sealed_12 key v f h = frame_12 _ _ _ v f h

pub opened_12 : (key v f : List ℕ) → length f ≡ 12 → open_aes key v f ≡ f
unfolding open_aes open_frame_of
opened_12 key v f h = frame_12 _ _ _ v f h

-- ---- what is sealed is octets
module _ (key : List ℕ) (k : Block key) where
  abbrev sealed : List ℕ → List ℕ → List ℕ
  sealed u b = cipher (round_key key) (xors b u)

  blocks_octets : (n : ℕ) (v p : List ℕ) → Block v → Octets p → n * 16 ≤ length p
      → Octets (chained_blocks sealed sealed (cipher (round_key key)) n v p)
  unfolding chained_blocks
  blocks_octets zero v p b o h = xor_octets p (cipher (round_key key) v) o (aes_block key v k b).1
  blocks_octets (suc n) v p b o h =
      let q = take 16 p in
      let r = drop 16 p in
      let g : length r ≡ length p - 16 = length-drop 16 p in
      let m : Block q = (length-take-le 16 p (omega arith), octets_take 16 p o) in
      let c : Block (sealed v q) = aes_block key (xors q v) k (xor_block q v m b) in
      octets_append (sealed v q) (chained_blocks sealed sealed (cipher (round_key key)) n (sealed v q) r) c.1
      (blocks_octets n (sealed v q) r c (octets_drop 16 p o) (omega arith))

pub seal_octets : (key v f : List ℕ) → Block key → Block v → Octets f → Octets (seal_aes key v f)
unfolding seal_aes seal_frame_of frame
seal_octets key v f k b o =
    let p = drop 12 f in
    octets_append (take 12 f) (chained_blocks (sealed key k) (sealed key k) (cipher (round_key key)) (length p / 16) v p) (octets_take 12 f o)
    (blocks_octets key k (length p / 16) v p b (octets_drop 12 f o) (omega arith))

-- Opening gives back what was sealed, for any cipher whose inverse undoes it.
use mathlib.Core.Path.{◌≡◌, ap, ap₂, ◌∙◌}
use mathlib.Core.List.{List, ◌++◌}
use Prim.Native.Nat.{ℕ, zero, suc, ◌+◌, ◌-◌, ◌*◌, ◌/◌, ◌<◌, ◌≤◌}
use native.Mathlib.Omega.{arith}
use lib.ListN.{length, take, drop, length-append, length-drop, take-append-drop}
use lib.Seq.{take_at, drop_at, length-take-le}
use Rattle.cipher_aes.specs.Field.{xors, Octets, Block}
use Rattle.cipher_aes.proofs.StepLaws.{xor_block, xor_undone, xor_length}
use Rattle.cipher_aes.proofs.CipherLaws.{octets_take, octets_drop}
use Rattle.cipher_cbc.specs.Cbc.{chained_blocks, frame, seal_frame_of, open_frame_of}

module _ (e d : List ℕ → List ℕ) (eb : (b : List ℕ) → Block b → Block (e b)) (de : (b : List ℕ) → Block b → d (e b) ≡ b) where
  abbrev seal : ℕ → List ℕ → List ℕ → List ℕ
  seal n v p = chained_blocks (λ u b. e (xors b u)) (λ u b. e (xors b u)) e n v p

  abbrev unseal : ℕ → List ℕ → List ℕ → List ℕ
  unseal n v p = chained_blocks (λ u b. xors (d b) u) (λ u b. b) e n v p

  -- the first block, and its ciphertext
  first : (p : List ℕ) → Octets p → 16 ≤ length p → Block (take 16 p)
  first p o h = (length-take-le 16 p h, octets_take 16 p o)

  both : (n : ℕ) (v p : List ℕ) → Block v → Octets p → n * 16 ≤ length p → length p < n * 16 + 16
      → (length (seal n v p) ≡ length p) × (unseal n v (seal n v p) ≡ p)
  unfolding chained_blocks
  both zero v p b o h k =
      let l : length (e v) ≡ 16 = (eb v b).0 in
      (xor_length p (e v) (omega arith), xor_undone p (e v) (omega arith))
  both (suc n) v p b o h k =
      let q = take 16 p in
      let c = e (xors q v) in
      let r = drop 16 p in
      let f : Block q = first p o (omega arith) in
      let x : Block (xors q v) = xor_block q v f b in
      let y : Block c = eb (xors q v) x in
      let g : length r ≡ length p - 16 = length-drop 16 p in
      let i = both n c r y (octets_drop 16 p o) (omega arith) (omega arith) in
      let t : take 16 (c ++ seal n c r) ≡ c = take_at c (seal n c r) 16 y.0 in
      let u : drop 16 (c ++ seal n c r) ≡ seal n c r = drop_at c (seal n c r) 16 y.0 in
      let m : length q ≤ length v = omega arith in (
        length-append c (seal n c r) ∙ omega (arith, i.0),
        ap₂ (λ (z z' : List ℕ). xors (d z) v ++ unseal n z z') t u
            ∙ ap₂ (λ (z z' : List ℕ). z ++ z') (ap (λ (z : List ℕ). xors z v) (de (xors q v) x) ∙ xor_undone q v m) i.1
            ∙ take-append-drop 16 p,
      )

  pub opened : (v f : List ℕ) → Block v → Octets f → 12 ≤ length f → open_frame_of e d v (seal_frame_of e v f) ≡ f
  unfolding open_frame_of seal_frame_of frame
  opened v f b o h =
      let p = drop 12 f in
      let n = length p / 16 in
      let s = seal n v p in
      let i = both n v p b (octets_drop 12 f o) (omega arith) (omega arith) in
      let l : length (take 12 f) ≡ 12 = length-take-le 12 f h in
      let t : take 12 (take 12 f ++ s) ≡ take 12 f = take_at (take 12 f) s 12 l in
      let u : drop 12 (take 12 f ++ s) ≡ s = drop_at (take 12 f) s 12 l in
      ap₂ (λ (x y : List ℕ). x ++ unseal (length y / 16) v y) t u
      ∙ ap (λ (k : ℕ). take 12 f ++ unseal (k / 16) v s) i.0
      ∙ ap (λ (x : List ℕ). take 12 f ++ x) i.1
      ∙ take-append-drop 12 f

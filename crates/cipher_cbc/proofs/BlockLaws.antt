-- What the loop over a frame's blocks keeps, for sealing and opening alike.
use mathlib.Core.Path.{◌≡◌, refl, sym, ap, ap₂, ◌∙◌}
use mathlib.Core.List.{List, [], ◌++◌, append_assoc, append-nil}
use Prim.Native.Nat.{ℕ, suc, ◌+◌, ◌-◌, ◌/◌, ◌<◌, ◌≤◌}
use native.Mathlib.Omega.{arith}
use lib.ListN.{length, take, drop, length-append, length-take, length-drop, take-append-drop, drop_of_length-le}
use lib.Seq.{drop-drop, take_at, drop_at, length-take-le, sets, sets-eq, length-sets}
use Rattle.cipher_aes.specs.declared.words.State.{State}
use Rattle.cipher_aes.specs.Field.{xors}
use Rattle.cipher_aes.specs.Cipher.{cipher, eq_inv_cipher}
use Rattle.cipher_aes.specs.Words.{key_at}
use Rattle.cipher_cbc.specs.Cbc.{chained_blocks, frame}

-- what a block b behind u is sealed to, with the words w of a schedule
abbrev pub sealed_block : List State → List ℕ → List ℕ → List ℕ
sealed_block w u b = cipher (key_at w) (xors b u)

-- what a block b behind u is opened to, with the words w of a schedule and x of the same through InvMixColumns
abbrev pub opened_block : List State → List State → List ℕ → List ℕ → List ℕ
opened_block w x u b = xors (eq_inv_cipher (key_at w) (key_at x) b) u

-- what the calls of one pass of the loop make of a loaded block l
pub encrypted : (e : List ℕ → List ℕ) (x y b l v : List ℕ) → x ≡ e y → y ≡ xors b v → b ≡ l → x ≡ e (xors l v)
encrypted e x y b l v p q r = p ∙ ap e (q ∙ ap (λ (z : List ℕ). xors z v) r)

pub decrypted : (d : List ℕ → List ℕ) (x y b l v : List ℕ) → x ≡ xors y v → y ≡ d b → b ≡ l → x ≡ xors (d l) v
decrypted d x y b l v p q r = p ∙ ap (λ (z : List ℕ). xors z v) (q ∙ ap d r)

-- the addresses copied: o is z but for them
module _ (s z o : List ℕ) (h : 12 ≤ length s) (p : o ≡ take 12 s ++ drop 12 z) where
  pub front : take 12 o ≡ take 12 s
  front = ap (take 12) p ∙ take_at (take 12 s) (drop 12 z) 12 (length-take-le 12 s h)

  behind : drop (length s) o ≡ drop (length s) z
  behind =
      let n : 12 + (length s - 12) ≡ length s = omega arith in
      let q : drop 12 o ≡ drop 12 z = ap (drop 12) p ∙ drop_at (take 12 s) (drop 12 z) 12 (length-take-le 12 s h) in
      ap (λ (k : ℕ). drop k o) (sym n) ∙ sym (drop-drop (length s - 12) 12 o) ∙ ap (drop (length s - 12)) q
      ∙ drop-drop (length s - 12) 12 z ∙ ap (λ (k : ℕ). drop k z) n

module _ (out next : List ℕ → List ℕ → List ℕ) (e : List ℕ → List ℕ) where
  -- all of p
  abbrev pub whole : List ℕ → List ℕ → List ℕ
  whole v p = chained_blocks out next e (length p / 16) v p

  more : (v p : List ℕ) → 16 ≤ length p → whole v p ≡ out v (take 16 p) ++ whole (next v (take 16 p)) (drop 16 p)
  unfolding chained_blocks
  more v p h =
      let n : length p / 16 ≡ suc (length (drop 16 p) / 16) = simp length-drop (omega arith) in
      ap (λ (k : ℕ). chained_blocks out next e k v p) n

  less : (v p : List ℕ) → length p < 16 → whole v p ≡ xors p (e v)
  unfolding chained_blocks
  less v p h =
      let n : length p / 16 ≡ 0 = omega arith in
      ap (λ (k : ℕ). chained_blocks out next e k v p) n

  -- of the octets s, with o₀ in the output slice before them: l is what is to stand in front of what stays of o₀
  module _ (s o₀ l : List ℕ) where
    -- before the block at place i: o holds what was written, and the blocks after v are left
    pub record Left (v : List ℕ) (i : ℕ) (o : List ℕ) : Type 0 where
      pub within : i ≤ length s
      pub long : length o ≡ length o₀
      pub rest : drop i o ≡ drop i o₀
      pub done : take i o ++ whole v (drop i s) ≡ l

    pub next_block : (v c u : List ℕ) (i : ℕ) (o o' : List ℕ) → Left v i o → 16 ≤ length s - i → length s ≤ length o₀
        → c ≡ out v (take 16 (drop i s)) → u ≡ next v (take 16 (drop i s)) → length c ≡ 16 → o' ≡ sets o i c → Left u (i + 16) o'
    next_block v c u i o o' t h k p q n r =
        let w : i ≤ length s = t.within in
        let g : length o ≡ length o₀ = t.long in
        let f : i + length c ≤ length o = omega arith in
        let j : i + length c ≡ i + 16 = omega arith in
        let a : o' ≡ take i o ++ c ++ drop (i + 16) o = r ∙ sets-eq c o i f ∙ ap (λ (m : ℕ). take i o ++ c ++ drop m o) j in
        let b : length (take i o ++ c) ≡ i + 16 = simp (length-append, length-take) (omega arith) in
        let m : 16 ≤ length (drop i s) = simp length-drop (omega arith) in
        record {
          within = omega arith;
          long = ap length r ∙ length-sets o i c ∙ t.long;
          rest = ap (drop (i + 16)) a ∙ drop_at (take i o ++ c) (drop (i + 16) o) (i + 16) b
              ∙ sym (drop-drop 16 i o) ∙ ap (drop 16) t.rest ∙ drop-drop 16 i o₀;
          done = ap (λ (x : List ℕ). x ++ whole u (drop (i + 16) s)) (ap (take (i + 16)) a ∙ take_at (take i o ++ c) (drop (i + 16) o) (i + 16) b)
              ∙ append_assoc (take i o) c (whole u (drop (i + 16) s))
              ∙ ap (λ (x : List ℕ). take i o ++ x)
              (ap₂ (λ (x y : List ℕ). x ++ y) p (ap₂ whole q (sym (drop-drop 16 i s))) ∙ sym (more v (drop i s) m))
              ∙ t.done;
        }

    -- less than a block is left
    pub left_short : (v : List ℕ) (i : ℕ) (o : List ℕ) → Left v i o → length s - i < 16 → take i o ++ xors (drop i s) (e v) ≡ l
    left_short v i o t h =
        let w : i ≤ length s = t.within in
        let m : length (drop i s) < 16 = simp length-drop (omega arith) in
        ap (λ (x : List ℕ). take i o ++ x) (sym (less v (drop i s) m)) ∙ t.done

    pub short_left : (v : List ℕ) (i : ℕ) (o : List ℕ) → i ≤ length s → length s - i < 16 → length o ≡ length o₀ → drop i o ≡ drop i o₀
        → take i o ++ xors (drop i s) (e v) ≡ l → Left v i o
    short_left v i o w h n r d =
        let m : length (drop i s) < 16 = simp length-drop (omega arith) in
        record {
          within = w;
          long = n;
          rest = r;
          done = ap (λ (x : List ℕ). take i o ++ x) (less v (drop i s) m) ∙ d;
        }

    -- and its residual block is written
    ends : (v : List ℕ) (i : ℕ) (o o' : List ℕ) → Left v i o → length s - i < 16
        → o' ≡ take i o ++ xors (drop i s) (e v) ++ drop (length s) o → o' ≡ l ++ drop (length s) o₀
    ends v i o o' t h p =
        let w : i ≤ length s = t.within in
        let n : i + (length s - i) ≡ length s = omega arith in
        p ∙ ap₂ (λ (x y : List ℕ). x ++ y) (left_short v i o t h)
        (ap (λ (j : ℕ). drop j o) (sym n) ∙ sym (drop-drop (length s - i) i o) ∙ ap (drop (length s - i)) t.rest
        ∙ drop-drop (length s - i) i o₀ ∙ ap (λ (j : ℕ). drop j o₀) n)

    -- none is left
    stops : (v : List ℕ) (i : ℕ) (o : List ℕ) → Left v i o → i ≡ length s → o ≡ l ++ drop (length s) o₀
    unfolding xors
    stops v i o t h =
        let n : drop i s ≡ [] = drop_of_length-le s {i = i} (omega arith) in
        ends v i o o t (omega arith)
        (sym (take-append-drop i o)
        ∙ ap₂ (λ (x y : List ℕ). x ++ y) (sym (append-nil (take i o)) ∙ ap (λ (x : List ℕ). take i o ++ xors x (e v)) (sym n)) (ap (λ (k : ℕ). drop k o) h))

  -- a frame s over the output slice z; in o₀ its addresses are copied
  module _ (v₀ s z o₀ : List ℕ) (h : 12 ≤ length s) (p : o₀ ≡ take 12 s ++ drop 12 z) where
    pub opening : take 12 o₀ ++ whole v₀ (drop 12 s) ≡ frame out next e v₀ s
    unfolding frame
    opening = ap (λ (l : List ℕ). l ++ whole v₀ (drop 12 s)) (front s z o₀ h p)

    pub begins : Left s o₀ (frame out next e v₀ s) v₀ 12 o₀
    begins =
        record {
          within = h;
          long = refl;
          rest = refl;
          done = opening;
        }

    onto : (r : List ℕ) → r ++ drop (length s) o₀ ≡ r ++ drop (length s) z
    onto r = ap (λ (x : List ℕ). r ++ x) (behind s z o₀ h p)

    pub ended : (v : List ℕ) (i : ℕ) (o o' : List ℕ) → Left s o₀ (frame out next e v₀ s) v i o → length s - i < 16
        → o' ≡ take i o ++ xors (drop i s) (e v) ++ drop (length s) o → o' ≡ frame out next e v₀ s ++ drop (length s) z
    ended v i o o' t m r = ends s o₀ (frame out next e v₀ s) v i o o' t m r ∙ onto (frame out next e v₀ s)

    pub stopped : (v : List ℕ) (i : ℕ) (o : List ℕ) → Left s o₀ (frame out next e v₀ s) v i o → i ≡ length s
        → o ≡ frame out next e v₀ s ++ drop (length s) z
    stopped v i o t m = stops s o₀ (frame out next e v₀ s) v i o t m ∙ onto (frame out next e v₀ s)

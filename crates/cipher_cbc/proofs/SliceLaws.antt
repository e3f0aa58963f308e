-- Words and blocks in lists: read off, and stored.
use mathlib.Core.Path.{◌≡◌, refl, sym, ap, ap₂, ◌∙◌}
use mathlib.Core.List.{List, [], ◌∷◌, ◌++◌, append-nil}
use Prim.Native.Nat.{ℕ, zero, suc, ◌+◌, ◌-◌, ◌<◌, ◌≤◌}
use native.Mathlib.Numerals.{add-one}
use native.Mathlib.Omega.{arith}
use lib.ListN.{length, get_or, take, drop, set, length-drop}
use lib.Bits.{bit_xor}
use lib.Seq.{drop-cons, take-add, take_all, drop-drop, get_or-drop, sets, paste, paste-suc}
use Rattle.cipher_aes.specs.Words.{word, state}
use Rattle.cipher_aes.specs.declared.words.State.{State}
use Rattle.cipher_aes.specs.Field.{◌⊕◌, xors}
use Rattle.cipher_cbc.specs.Cbc.{chained_blocks}
use Rattle.cipher_cbc.specs.Blocks.{seal_blocks_of, residual, blocks_end}
use Rattle.cipher_aes.proofs.XorLaws.{zero_l}
use Rattle.cipher_aes.proofs.EquivalentLaws.{get_d_xors}
use Rattle.cipher_aes.proofs.ColumnLaws.{four}
use Rattle.cipher_aes.proofs.StepLaws.{from, join, xor_length}

window : (s : List ℕ) (n i : ℕ) → i + n ≤ length s → take n (drop i s) ≡ from s i n
window s zero i h = refl
window s (suc n) i h =
    let l : i < length s = omega arith in
    ap (take (suc n)) (drop-cons s i 0 l) ∙ ap (λ (t : List ℕ). get_or s i 0 ∷ t) (window s n (suc i) (omega arith))

pub four_at : (s : List ℕ) (i : ℕ) → i + 4 ≤ length s
    → get_or s i 0 ∷ get_or s (i + 1) 0 ∷ get_or s (i + 2) 0 ∷ get_or s (i + 3) 0 ∷ [] ≡ take 4 (drop i s)
four_at s i h =
    let p : i + 1 ≡ suc i = omega arith in
    let q : i + 2 ≡ suc (suc i) = omega arith in
    let r : i + 3 ≡ suc (suc (suc i)) = omega arith in
    four refl (ap (λ (k : ℕ). get_or s k 0) p) (ap (λ (k : ℕ). get_or s k 0) q) (ap (λ (k : ℕ). get_or s k 0) r) ∙ sym (window s 4 i h)

-- 16 elements as four times four
pub sixteen_at : (s : List ℕ) (i : ℕ) → take 4 (drop i s) ++ take 4 (drop (i + 4) s) ++ take 4 (drop (i + 8) s) ++ take 4 (drop (i + 12) s) ≡ take 16 (drop i s)
sixteen_at s i =
    let t = drop i s in
    let p : drop (i + 4) s ≡ drop 4 t = sym (drop-drop 4 i s) in
    let q : drop (i + 8) s ≡ drop 8 t = sym (drop-drop 8 i s) in
    let r : drop (i + 12) s ≡ drop 12 t = sym (drop-drop 12 i s) in
    join {a = take 4 t} {a' = take 4 t} refl (ap (take 4) p) (ap (take 4) q) (ap (take 4) r)
    ∙ ap (λ (l : List ℕ). l ++ take 4 (drop 8 t) ++ take 4 (drop 12 t)) (sym (take-add 4 4 t))
    ∙ ap (λ (l : List ℕ). l ++ take 4 (drop 12 t)) (sym (take-add 8 4 t))
    ∙ sym (take-add 12 4 t)

pub loaded : (r : State) (s : List ℕ) (i : ℕ) → word r.a ≡ take 4 (drop i s) → word r.b ≡ take 4 (drop (i + 4) s)
    → word r.c ≡ take 4 (drop (i + 8) s) → word r.d ≡ take 4 (drop (i + 12) s) → state r ≡ take 16 (drop i s)
unfolding state
loaded r s i p q u v = join p q u v ∙ sixteen_at s i

pub sets_append : (l : List ℕ) (i : ℕ) (a b : List ℕ) → sets (sets l i a) (i + length a) b ≡ sets l i (a ++ b)
sets_append l i [] b = ap (λ (k : ℕ). sets l k b) (omega arith)
sets_append l i (x ∷ a) b =
    let p : i + suc (length a) ≡ suc i + length a = omega arith in
    ap (λ (k : ℕ). sets (sets l i (x ∷ a)) k b) p ∙ sets_append (set l i x) (suc i) a b

-- four words stored one after the other
pub stored : (l l1 l2 l3 l4 : List ℕ) (i : ℕ) (s : State) → l1 ≡ sets l i (word s.a) → l2 ≡ sets l1 (i + 4) (word s.b)
    → l3 ≡ sets l2 (i + 8) (word s.c) → l4 ≡ sets l3 (i + 12) (word s.d) → l4 ≡ sets l i (state s)
unfolding state word
stored l l1 l2 l3 l4 i s p q u v =
    let a = word s.a in
    let b = word s.b in
    let c = word s.c in
    let d = word s.d in
    v ∙ ap (λ (t : List ℕ). sets t (i + 12) d)
    (u ∙ ap (λ (t : List ℕ). sets t (i + 8) c) (q ∙ ap (λ (t : List ℕ). sets t (i + 4) b) p ∙ sets_append l i a b)
    ∙ sets_append l i (a ++ b) c)
    ∙ sets_append l i (a ++ b ++ c) d

-- one pass of the loop that adds b to what follows place i
pub added : (d s b : List ℕ) (i j : ℕ) → i + j < length s → length s ≤ length d → length s - i ≤ length b
    → set (paste d i (xors (drop i s) b) j) (i + j) (bit_xor (get_or s (i + j) 0) (get_or b j 0)) ≡ paste d i (xors (drop i s) b) (j + 1)
unfolding ◌⊕◌
added d s b i j h k l =
    let n : length (drop i s) ≡ length s - i = length-drop i s in
    let x = xors (drop i s) b in
    let q : length x ≡ length (drop i s) = xor_length (drop i s) b (omega arith) in
    let e : get_or x j 0 ≡ bit_xor (get_or s (i + j) 0) (get_or b j 0) =
    get_d_xors (drop i s) b j (omega arith) (omega arith) ∙ ap (λ (a : ℕ). bit_xor a (get_or b j 0)) (get_or-drop i s j 0) in
    ap (set (paste d i x j) (i + j)) (sym e) ∙ paste-suc d i x j 0 (omega arith) (omega arith) ∙ ap (paste d i x) (sym (add-one j))

pub added_all : (d s b : List ℕ) (i j : ℕ) → i ≤ length s → j ≡ length s - i → j ≤ length b
    → paste d i (xors (drop i s) b) j ≡ take i d ++ xors (drop i s) b ++ drop (length s) d
added_all d s b i j h e l =
    let m : length (drop i s) ≡ j = length-drop i s ∙ sym e in
    let n : length (xors (drop i s) b) ≡ j = xor_length (drop i s) b (omega arith) ∙ m in
    let k : i + j ≡ length s = omega arith in
    ap₂ (λ (x : List ℕ) (y : ℕ). take i d ++ x ++ drop y d) (take_all j (xors (drop i s) b) (omega arith)) k

abbrev pub zeros : List ℕ
zeros = 0 ∷ 0 ∷ 0 ∷ 0 ∷ 0 ∷ 0 ∷ 0 ∷ 0 ∷ 0 ∷ 0 ∷ 0 ∷ 0 ∷ 0 ∷ 0 ∷ 0 ∷ 0 ∷ []

zeros_added : (v : State) → xors zeros (state v) ≡ state v
unfolding state word xors
zeros_added v = simp zero_l

-- a block of zeros sealed behind v is v encrypted
pub zeros_sealed : (e : List ℕ → List ℕ) (v : State) (u b : List ℕ) → length b ≡ 16
    → take (blocks_end 0 zeros) b ++ residual e u (drop (blocks_end 0 zeros) zeros) ≡ seal_blocks_of e (state v) zeros → b ≡ e (state v)
unfolding xors chained_blocks
zeros_sealed e v u b h p =
    sym (append-nil b) ∙ ap (λ (x : List ℕ). x ++ []) (sym (take_all 16 b (omega arith))) ∙ p ∙ append-nil (e (xors zeros (state v)))
    ∙ ap e (zeros_added v)

pub state_length : (k : State) → length (state k) ≡ 16
unfolding state word
state_length k = refl

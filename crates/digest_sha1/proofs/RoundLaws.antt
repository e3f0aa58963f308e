-- One more round in each quarter: s after t rounds, r after one more with the quarter's function and constant.
use Rattle.std.proofs.Common.{◌≡◌, ℕ, ◌+◌, ◌<◌, ◌≤◌, List, length, get_or, set, sym, ◌∙◌, add-one, arith, length-set, le-ltb, lt-ltb}
use Rattle.digest_sha1.specs.declared.value.Hash.{Hash}
use Rattle.digest_sha1.specs.Words.{ch, parity, maj, quarter, f, K}
use Rattle.digest_sha1.specs.Sha1.{round, rounds, round_at, schedule, next_word_of, Upto}
use Rattle.digest_sha1.proofs.ScheduleLaws.{next_more, stored_word}

module _ {A : Type 0} (t : ℕ) (p q r s : A) where
  quarter1 : t < 20 → quarter t p q r s ≡ p
  unfolding quarter
  quarter1 h = simp (lt-ltb t 20 h)

  quarter2 : 20 ≤ t → t < 40 → quarter t p q r s ≡ q
  unfolding quarter
  quarter2 h k = simp (le-ltb t 20 h, lt-ltb t 40 k)

  quarter3 : 40 ≤ t → t < 60 → quarter t p q r s ≡ r
  unfolding quarter
  quarter3 h k =
      let h2 : 20 ≤ t = omega arith in
      simp (le-ltb t 20 h2, le-ltb t 40 h, lt-ltb t 60 k)

  quarter4 : 60 ≤ t → quarter t p q r s ≡ s
  unfolding quarter
  quarter4 h =
      let h2 : 20 ≤ t = omega arith in
      let h3 : 40 ≤ t = omega arith in
      simp (le-ltb t 20 h2, le-ltb t 40 h3, le-ltb t 60 h)

module _ (b : List ℕ) (h s r : Hash) (t v x : ℕ) (so_far : s ≡ rounds (schedule b 80) h t) where
  more : (k : ℕ) → get_or (schedule b 80) t 0 ≡ x → f t s.b s.c s.d ≡ v → K t ≡ k
      → r ≡ round s v k x → r ≡ rounds (schedule b 80) h (t + 1)
  unfolding rounds round_at
  more k word ef ek e = rw (add-one, ← so_far, ef, ek, word) e

  pub more1 : t < 20 → get_or (schedule b 80) t 0 ≡ x → v ≡ ch s.b s.c s.d → r ≡ round s v 0x5a827999 x
      → r ≡ rounds (schedule b 80) h (t + 1)
  unfolding f K
  more1 a word e = more 0x5a827999 word (quarter1 _ _ _ _ _ a ∙ sym e) (quarter1 _ _ _ _ _ a)

module _ (b : List ℕ) (h : Hash) (w : List ℕ) (s r : Hash) (t v x : ℕ) (so_far : Upto b h w s t) (ex : x ≡ next_word_of w t) where
  pub more_made : 16 ≤ t → t < 80 → (k : ℕ) → v ≡ f t s.b s.c s.d → k ≡ K t → r ≡ round s v k x → Upto b h (set w t x) r (t + 1)
  more_made lo hi k ef ek e =
      let l : t < length w = omega (arith, so_far.long) in
      let m = next_more b w t x l so_far.words lo ex in
      record {
        long = length-set w t x ∙ so_far.long;
        words = m;
        vars = more b h s r t v x so_far.vars k (stored_word b w t x l hi m) (sym ef) (sym ek) e;
      }

-- the function and the constant of the second, the third and the fourth quarter
module _ (t x y z : ℕ) where
  pub second : 20 ≤ t → t < 40 → (parity x y z ≡ f t x y z) × (0x6ed9eba1 ≡ K t)
  unfolding f K
  second lo hi = (sym (quarter2 _ _ _ _ _ lo hi), sym (quarter2 _ _ _ _ _ lo hi))

  pub third : 40 ≤ t → t < 60 → (maj x y z ≡ f t x y z) × (0x8f1bbcdc ≡ K t)
  unfolding f K
  third lo hi = (sym (quarter3 _ _ _ _ _ lo hi), sym (quarter3 _ _ _ _ _ lo hi))

  pub fourth : 60 ≤ t → (parity x y z ≡ f t x y z) × (0xca62c1d6 ≡ K t)
  unfolding f K
  fourth lo = (sym (quarter4 _ _ _ _ _ lo), sym (quarter4 _ _ _ _ _ lo))

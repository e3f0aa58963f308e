-- One more word of the schedule in the array w, whose first t words are those of the definition.
use Rattle.std.proofs.Common.{◌≡◌, ℕ, zero, suc, ◌+◌, ◌-◌, ◌*◌, ◌<◌, ◌≤◌, List, length, get_or, take, set, sym, refl, ap, ◌∙◌, add-zero, add-suc, add-one, arith, length-append, take_all, get_or-take, get_or-set_same, take-suc-set, le-ltb, lt-ltb}
use lib.Seq.{take-append-le}
use Rattle.digest_sha1.specs.Sha1.{schedule, next_word_of, word_at}

module _ (b w : List ℕ) (t v : ℕ) (fits : t < length w) (so_far : take t w ≡ schedule b t) where
  pub word_more : t < 16 → v ≡ word_at b (4 * t) → take (t + 1) (set w t v) ≡ schedule b (t + 1)
  unfolding schedule
  word_more low e = rw (add-one, take-suc-set, so_far, lt-ltb t 16 low, e)

  at : (k : ℕ) → k < t → get_or w k 0 ≡ get_or (schedule b t) k 0
  at k h = sym (get_or-take t w k 0 h) ∙ ap (λ (l : List ℕ). get_or l k 0) so_far

  pub next_more : 16 ≤ t → v ≡ next_word_of w t → take (t + 1) (set w t v) ≡ schedule b (t + 1)
  unfolding schedule
  next_more high e =
      let e3 = at (t - 3) (omega arith) in
      let e8 = at (t - 8) (omega arith) in
      let e14 = at (t - 14) (omega arith) in
      let e16 = at (t - 16) (omega arith) in
      rw (add-one, take-suc-set, so_far, le-ltb t 16 high, e, e3, e8, e14, e16)

length_schedule : (b : List ℕ) (n : ℕ) → length (schedule b n) ≡ n
unfolding schedule
length_schedule b zero = refl
length_schedule b (suc n) = rw (length-append, length_schedule b n) (add-one n)

-- a shorter schedule is a part of a longer one
schedule_take : (b : List ℕ) (t k : ℕ) → take t (schedule b (t + k)) ≡ schedule b t
unfolding schedule
schedule_take b t zero = rw add-zero (take_all t (schedule b t) (omega (arith, length_schedule b t)))
schedule_take b t (suc k) =
    let l : t ≤ length (schedule b (t + k)) = omega (arith, length_schedule b (t + k)) in
    rw (add-suc, take-append-le t (schedule b (t + k)) _ l) (schedule_take b t k)

pub word_in : (b : List ℕ) (t n : ℕ) → t < n → n ≤ 80 → get_or (schedule b 80) t 0 ≡ get_or (schedule b n) t 0
word_in b t n h l =
    let e : n + (80 - n) ≡ 80 = omega arith in
    rw (← schedule_take b n (80 - n), e, get_or-take n (schedule b 80) t 0 h)

-- the words that the code hands to a round
pub first_word : (b w : List ℕ) (t : ℕ) → take 20 w ≡ schedule b 20 → t < 20 → get_or (schedule b 80) t 0 ≡ get_or w t 0
first_word b w t e h = rw (word_in b t 20 h (omega arith), ← e, get_or-take 20 w t 0 h)

pub stored_word : (b w : List ℕ) (t v : ℕ) → t < length w → t < 80 → take (t + 1) (set w t v) ≡ schedule b (t + 1)
    → get_or (schedule b 80) t 0 ≡ v
stored_word b w t v l h e =
    let k : t < t + 1 = omega arith in
    rw (word_in b t (t + 1) k (omega arith), ← e, get_or-take (t + 1) (set w t v) t 0 k, get_or-set_same w t v 0 l)

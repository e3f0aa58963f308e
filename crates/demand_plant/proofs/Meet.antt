-- Two keys made of one SAID with one number that meet, at the modem or at the head-end, are one key (demand 3, why it is true).
use mathlib.Core.Path.{◌≡◌}
use mathlib.Core.List.{List, Memᴰ}
use Prim.Native.Nat.{ℕ, ◌+◌, ◌*◌, ◌%◌, ◌≤◌, ◌<◌}
use native.Mathlib.Omega.{arith}
use native.Mathlib.Nat.{mul-le-mul_right}
use Rattle.key_association.specs.Made.{Made, Generations}
use Rattle.key_association.proofs.MadeLaws.{Follows}

-- deadlines rise by at least H a generation, n generations on
rise_far : (half n : ℕ) (a b : Made) → a.deadline + b.generation * half ≤ b.deadline + a.generation * half → a.generation + n ≤ b.generation
    → a.deadline + n * half ≤ b.deadline
rise_far half n a b rise far =
    let more : (a.generation + n) * half ≤ b.generation * half = mul-le-mul_right half far in
    let parts : (a.generation + n) * half ≡ a.generation * half + n * half = omega arith in
    omega (arith, rise, more, parts)

-- at second t, with the older of the last two at most H after it, and keys k and g of one number
module _ (half D F : ℕ) (bound : D + F ≤ 14 * half) (ms : List Made) (l : Generations) (f : Follows half ms l) (t : ℕ) (near : l.older.deadline ≤ t + half)
    (k g : Made) (mk : Memᴰ k ms) (mg : Memᴰ g ms) (same : k.generation % 16 ≡ g.generation % 16) (s : ℕ) (in_time : t ≤ s + F) where
  -- where b is made after a of the same number, a's deadline is 14 halves past
  past : (a b : Made) → Memᴰ a ms → Memᴰ b ms → a.generation % 16 ≡ b.generation % 16 → a.generation < b.generation → a.deadline + 14 * half ≤ t
  past a b ma mb one less =
      let far : a.generation + 15 ≤ l.older.generation = omega (arith, f.top b mb, f.next, one, less) in
      let rise = rise_far half 15 a l.older (f.paced.rise a l.older ma f.older_in (omega (arith, far))) far in
      omega (arith, rise, near)

  -- sealed at s by the head-end with g, its older then; met at the modem by its copy of k, which counts at t, D after k's deadline at most
  pub one_down : s < g.deadline → g.deadline ≤ s + half → s ≤ t → t < k.deadline + D → k ≡ g
  one_down live close later counts = f.paced.once k g mk mg (omega (arith, same, not_after, not_before))
    where
      not_after : g.generation < k.generation → ⊥
      not_after less = omega (arith, past g k mg mk (omega (arith, same)) less, live, in_time, bound)

      not_before : k.generation < g.generation → ⊥
      not_before less =
          let far : k.generation + 16 ≤ g.generation = omega (arith, same, less) in
          let rise = rise_far half 16 k g (f.paced.rise k g mk mg (omega (arith, less))) far in
          omega (arith, rise, close, later, counts, bound)

  -- sealed at s by the modem with its copy of k; met at the head-end by g, one of its last two
  pub one_up : s < k.deadline + D → l.older.generation ≤ g.generation → k ≡ g
  one_up counted held = f.paced.once k g mk mg (omega (arith, same, not_after, not_before))
    where
      not_after : k.generation < g.generation → ⊥
      not_after less = omega (arith, past k g mk mg same less, counted, in_time, bound)

      not_before : g.generation < k.generation → ⊥
      not_before less = omega (arith, f.top k mk, f.next, same, less, held)

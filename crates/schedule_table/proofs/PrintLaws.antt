-- The theorems of the table: what `start` writes, and then what repeated calls of `fill` write, is all that is to be printed.
use mathlib.Core.Path.{◌≡◌, refl, sym, ap, ◌∙◌}
use mathlib.Core.Bool.{Bool, true, false, cond}
use mathlib.Core.List.{List, [], ◌∷◌, ◌++◌, append_assoc}
use Prim.Native.Nat.{ℕ, zero, suc, ◌+◌, ◌-◌, ◌*◌, ◌%◌, ◌≤◌, ◌<◌}
use native.Mathlib.Nat.{mul-le-mul_left, mul-le-mul_right}
use native.Mathlib.Omega.{arith}
use lib.Dec.{leb, eqb, ltb}
use lib.ListN.{length, take, drop, length-append}
use lib.Seq.{take-append_seam}
use borrow.Author.Tests.{lt-ltb, le-ltb, eqb-true, eqb-false}
use Rattle.key_traffic.specs.Octets.{overlay}
use Rattle.key_traffic.specs.declared.numbers.TekNumber.{TekNumber}
use Rattle.text.specs.Decimal.{limit}
use Rattle.text.proofs.DecimalLaws.{decimal_length_high}
use Rattle.key_association.specs.Listing.{fresh_of}
use Rattle.key_association.specs.Made.{Generations, Made, made_at, with_made, keys_made_from}
use Rattle.schedule_table.specs.declared.input.Asked.{Asked}
use Rattle.std.specs.Prelude.{Option, None, Some}
use Rattle.schedule_table.specs.declared.print.Cursor.{Cursor}
use Rattle.schedule_table.specs.Schedule.{zeros, every_half_of, row_octets, rows_of, table_of, output_for, output_of, input_of}
use Rattle.schedule_table.specs.Print.{Steady, Part, nothing_asked, cursor_of, next_of, newer_row, start_for, start_of, part_when, fill_for, fill_of, line_of, rest_of, repeated}
use Rattle.schedule_table.proofs.InputLaws.{table_is}
use Rattle.schedule_table.proofs.CursorLaws.{first_steady, number_next, deadline_next, next_steady, fill_next, refused_fits}

-- ---- what the clock calls make, one key a call

-- The rows of n calls every H, the last at t, with generation g the newest
unfoldable paced_rows_of : ℕ → ℕ → ℕ → ℕ → List ℕ
paced_rows_of half t g zero = []
paced_rows_of half t g (suc n) = row_octets (g + 1) ((g + 1) % 16) (t + half) (t + half + half + half) ++ paced_rows_of half (t + half) (g + 1) n

module _ (half : ℕ) (some : 1 ≤ half) where
  paced_rows : (n t : ℕ) (l : Generations) → l.older.deadline ≡ t + half → l.newer.deadline ≡ t + half + half
      → rows_of (keys_made_from half (l ∷ []) (every_half_of half t n)) ≡ paced_rows_of half t l.newer.generation n
  unfolding every_half_of rows_of paced_rows_of
  paced_rows zero t l older newer = refl
  paced_rows (suc n) t l older newer =
      let past : ltb (t + half) l.older.deadline ≡ false = le-ltb (t + half) l.older.deadline (omega arith) in
      let live : ltb (t + half) l.newer.deadline ≡ true = lt-ltb (t + half) l.newer.deadline (omega arith) in
      let next : Made = made_at l.said l.suite (l.newer.generation + 1) (t + half) (l.newer.deadline + half) zeros 0 in
      let due : l.newer.deadline + half ≡ t + half + half + half = ap (λ (d : ℕ). d + half) newer in
      simp (past, live)
      (ap (λ (d : ℕ). row_octets (l.newer.generation + 1) ((l.newer.generation + 1) % 16) (t + half) d ++ rows_of (keys_made_from half (with_made l next ∷ []) (every_half_of half (t + half) n))) due
      ∙ ap (λ (r : List ℕ). row_octets (l.newer.generation + 1) ((l.newer.generation + 1) % 16) (t + half) (t + half + half + half) ++ r)
      (paced_rows n (t + half) (with_made l next) newer due))

rest_paced : (c : Cursor) → Steady c → rest_of c ≡ paced_rows_of c.half c.clock c.generation c.left
unfolding rest_of
rest_paced c s = paced_rows c.half s.half_some c.left c.clock (line_of c) s.older_due s.newer_due

paced_more : (half t g n : ℕ) → 1 ≤ n → paced_rows_of half t g n
    ≡ row_octets (g + 1) ((g + 1) % 16) (t + half) (t + half + half + half) ++ paced_rows_of half (t + half) (g + 1) (n - 1)
unfolding paced_rows_of
paced_more half t g zero more = absurd (omega arith)
paced_more half t g (suc n) more =
    let e : n ≡ suc n - 1 = omega arith in
    ap (λ (k : ℕ). row_octets (g + 1) ((g + 1) % 16) (t + half) (t + half + half + half) ++ paced_rows_of half (t + half) (g + 1) k) e

module _ (c : Cursor) (s : Steady c) where
  row_next : newer_row (next_of c)
      ≡ row_octets (c.generation + 1) ((c.generation + 1) % 16) (c.clock + c.half) (c.clock + c.half + c.half + c.half)
  unfolding next_of
  row_next =
      ap (λ (n : TekNumber). row_octets (c.generation + 1) n.0 (c.clock + c.half) (next_of c).held.newer.deadline) (number_next c s)
      ∙ ap (row_octets (c.generation + 1) ((c.generation + 1) % 16) (c.clock + c.half)) (deadline_next c s)

  module _ (more : 1 ≤ c.left) where
    rest_after : rest_of (next_of c) ≡ paced_rows_of c.half (c.clock + c.half) (c.generation + 1) (c.left - 1)
    unfolding next_of
    rest_after = rest_paced (next_of c) (next_steady c s more)

    -- a clock call's row, and then the rest
    rest_next : newer_row (next_of c) ++ rest_of (next_of c) ≡ rest_of c
    rest_next =
        ap (λ (r : List ℕ). r ++ rest_of (next_of c)) row_next
        ∙ ap
        (λ (r : List ℕ). row_octets (c.generation + 1) ((c.generation + 1) % 16) (c.clock + c.half) (c.clock + c.half + c.half + c.half) ++ r)
        rest_after
        ∙ sym (paced_more c.half c.clock c.generation c.left more)
        ∙ sym (rest_paced c s)

-- ---- nothing is left to print where no clock call is left
pub none_left : (c : Cursor) → c.left ≡ 0 → rest_of c ≡ []
unfolding rest_of every_half_of rows_of
none_left c e = ap (λ (n : ℕ). rows_of (keys_made_from c.half (line_of c ∷ []) (every_half_of c.half c.clock n))) e

-- ---- what `start` writes, and then the rest
table_start : (a : Asked) → (start_for (Some a)).written ++ rest_of (cursor_of a) ≡ table_of a
unfolding table_of rest_of rows_of cursor_of fresh_of
table_start a = rw append_assoc

none_asked : (cursor_of nothing_asked).left ≡ 0
unfolding cursor_of
none_asked = refl

pub after_start : (s : List ℕ) → (start_of s).written ++ rest_of (start_of s).cursor ≡ output_of s
unfolding start_of output_of
after_start s = go (input_of s)
  where
    go : (i : Option Asked) → (start_for i).written ++ rest_of (start_for i).cursor ≡ output_for i
    go (Some a) = table_start a
    go None = ap (λ (r : List ℕ). 49 ∷ 10 ∷ r) (none_left (cursor_of nothing_asked) none_asked)

pub start_steady : (s : List ℕ) → Steady (start_of s).cursor
unfolding start_of
start_steady s = go (input_of s) refl
  where
    go : (i : Option Asked) → input_of s ≡ i → Steady (start_for i).cursor
    go (Some a) e = first_steady a (table_is s a e).1
    go None e = first_steady nothing_asked refused_fits

-- ---- what `fill` writes, and then the rest
next_left : (c : Cursor) → (next_of c).left ≡ c.left - 1
unfolding next_of
next_left c = refl

-- A part that goes on from a cursor
pub record GoesOn (p : Part) (c : Cursor) : Type 0 where
  pub rest : p.written ++ rest_of p.cursor ≡ rest_of c
  pub steady : Steady p.cursor
  pub fewer : p.cursor.left ≤ c.left

one_call : (c : Cursor) (p : Part) (t : Bool) → Steady c → 1 ≤ c.left → GoesOn p (next_of c) → GoesOn (part_when t (newer_row (next_of c)) p c) c
one_call c p true s more g =
    record {
      rest =
          append_assoc (newer_row (next_of c)) p.written (rest_of p.cursor)
          ∙ ap (λ (r : List ℕ). newer_row (next_of c) ++ r) g.rest
          ∙ rest_next c s more;
      steady = g.steady;
      fewer = omega (arith, g.fewer, next_left c);
    }
one_call c p false s more g = record { rest = refl; steady = s; fewer = omega arith }

goes_on : (n room : ℕ) (c : Cursor) → c.left ≡ n → Steady c → GoesOn (fill_for n room c) c
unfolding fill_for
goes_on zero room c e s = record { rest = refl; steady = s; fewer = omega arith }
goes_on (suc n) room c e s =
    let after = fill_for n (room - length (newer_row (next_of c))) (next_of c) in
    let more : 1 ≤ c.left = omega arith in
    one_call c after (leb 84 room) s more
    (goes_on n (room - length (newer_row (next_of c))) (next_of c) (omega (arith, next_left c)) (next_steady c s more))

module _ (room : ℕ) (c : Cursor) (s : Steady c) where
  pub after_fill : (fill_of room c).written ++ rest_of (fill_of room c).cursor ≡ rest_of c
  after_fill = (goes_on c.left room c refl s).rest

  pub fill_steady : Steady (fill_of room c).cursor
  fill_steady = (goes_on c.left room c refl s).steady

  -- a fill with room for a row makes a clock call
  pub fill_lowers : 84 ≤ room → 1 ≤ c.left → (fill_of room c).cursor.left < c.left
  fill_lowers wide more =
      let after = fill_of (room - length (newer_row (next_of c))) (next_of c) in
      let first : (fill_of room c).cursor ≡ after.cursor = ap (λ (p : Part). p.cursor) (fill_next room c more wide) in
      let below : after.cursor.left ≤ (next_of c).left
      = (goes_on (next_of c).left (room - length (newer_row (next_of c))) (next_of c) refl (next_steady c s more)).fewer in
      omega (arith, ap (λ (k : Cursor). k.left) first, below, next_left c)

-- ---- all fills
all_fills : (n room : ℕ) (c : Cursor) → 84 ≤ room → Steady c → c.left ≤ n → repeated n room c ≡ rest_of c
unfolding repeated
all_fills zero room c wide s few = sym (none_left c (omega arith))
all_fills (suc n) room c wide s few = go (eqb c.left 0) refl (all_fills n room (fill_of room c).cursor wide (fill_steady room c s))
  where
    go : (t : Bool) → eqb c.left 0 ≡ t → ((fill_of room c).cursor.left ≤ n → repeated n room (fill_of room c).cursor ≡ rest_of (fill_of room c).cursor)
        → cond t [] ((fill_of room c).written ++ repeated n room (fill_of room c).cursor) ≡ rest_of c
    go true e ih = sym (none_left c (eqb-true c.left 0 e))
    go false e ih =
        let more : 1 ≤ c.left = some c.left (eqb-false c.left 0 e) in
        let lower : (fill_of room c).cursor.left ≤ n = omega (arith, fill_lowers room c s wide more) in
        ap (λ (r : List ℕ). (fill_of room c).written ++ r) (ih lower) ∙ after_fill room c s
      where
        some : (k : ℕ) → (k ≡ 0 → ⊥) → 1 ≤ k
        some zero no_zero = absurd (no_zero refl)
        some (suc k) no_zero = omega arith

-- ---- how long it is: a row has at most 84 octets, and there is one for each clock call left
row_length : (a b c d : ℕ) → a < limit → b < limit → c < limit → d < limit → length (row_octets a b c d) ≤ 84
unfolding row_octets
row_length a b c d ha hb hc hd =
    simp length-append
    (omega (arith, decimal_length_high a ha, decimal_length_high b hb, decimal_length_high c hc, decimal_length_high d hd))

row_short : (c : Cursor) → Steady c → 1 ≤ c.left → length (newer_row (next_of c)) ≤ 84
row_short c s more =
    let time = s.in_time in
    let one-half : 1 * c.half ≤ c.left * c.half = mul-le-mul_right c.half more in
    rw (row_next c s)
    (row_length (c.generation + 1) ((c.generation + 1) % 16) (c.clock + c.half) (c.clock + c.half + c.half + c.half)
    (omega (arith, s.counted)) (omega arith) (omega (arith, one-half, time)) (omega (arith, one-half, time, s.half_small)))

rest_short : (n : ℕ) (c : Cursor) → c.left ≡ n → Steady c → length (rest_of c) ≤ n * 84
rest_short zero c e s = omega (arith, ap length (none_left c e))
rest_short (suc n) c e s =
    let more : 1 ≤ c.left = omega arith in
    let after = rest_short n (next_of c) (omega (arith, next_left c)) (next_steady c s more) in
    omega (arith, after, row_short c s more, sym (length-append (newer_row (next_of c)) (rest_of (next_of c))) ∙ ap length (rest_next c s more))

-- all rows that may be left fit a count of octets
pub rest_most : (c : Cursor) → Steady c → length (rest_of c) ≤ 84000000000000
rest_most c s =
    let each : c.left * 1 ≤ c.left * c.half = mul-le-mul_left c.left s.half_some in
    omega (arith, rest_short c.left c refl s, each, s.in_time)

-- The front of a slice, up to the count that is answered, is what was written
pub front : (lent written : List ℕ) → take (length written) (overlay lent written) ≡ written
front lent written = take-append_seam written (drop (length written) lent)

-- For every input and every slice of 256 octets or more: what `start` writes, and what `fill` writes until nothing is left, is
-- what the program is to print
pub whole : (s : List ℕ) (room : ℕ) → 256 ≤ room → (start_of s).written ++ repeated (start_of s).cursor.left room (start_of s).cursor ≡ output_of s
whole s room wide =
    ap
    (λ (r : List ℕ). (start_of s).written ++ r)
    (all_fills (start_of s).cursor.left room (start_of s).cursor (omega arith) (start_steady s) (omega arith))
    ∙ after_start s

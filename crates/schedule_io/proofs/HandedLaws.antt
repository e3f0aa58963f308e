-- What `print` keeps from slice to slice: the cursor is steady, and the octets handed on and those of the rows left are all there are.
use Prim.Native.Nat.{ℕ, ◌+◌, ◌≤◌, ◌<◌}
use mathlib.Core.Path.{◌≡◌, sym, ap, ◌∙◌}
use mathlib.Core.List.{List}
use native.Mathlib.Omega.{arith}
use lib.ListN.{length, length-append}
use Rattle.schedule_table.specs.declared.print.Cursor.{Cursor}
use Rattle.schedule_table.specs.declared.print.Printed.{Printed}
use Rattle.schedule_table.specs.Schedule.{output_of}
use Rattle.schedule_table.specs.Print.{Steady, printed_of, start_of, fill_of, rest_of}
use Rattle.schedule_table.proofs.PrintLaws.{after_start, start_steady, after_fill, fill_steady, rest_most, none_left, fill_lowers}

pub record Handed (text : List ℕ) (cursor : Cursor) (octets : ℕ) : Type 0 where
  pub steady : Steady cursor
  pub counted : octets + length (rest_of cursor) ≡ length text
  pub short : length text ≤ 84000000004096

pub first : (s : List ℕ) (cursor : Cursor) (count : ℕ) → cursor ≡ (start_of s).cursor → count ≡ length (start_of s).written → count ≤ 4096 → Handed (output_of s) cursor count
first s cursor count same long few =
    let all = sym (length-append (start_of s).written (rest_of (start_of s).cursor)) ∙ ap length (after_start s) in
    let rest = ap (λ (k : Cursor). length (rest_of k)) same in
    record {
      steady = rw same (start_steady s);
      counted = omega (arith, all, rest, long);
      short = omega (arith, all, long, few, rest_most (start_of s).cursor (start_steady s));
    }

module _ (text : List ℕ) (c : Cursor) (octets room : ℕ) (wide : room ≡ 4096) (p : Printed) (h : Handed text c octets) (is : p ≡ printed_of (fill_of room c)) where
  part : p ≡ printed_of (fill_of 4096 c)
  part = is ∙ ap (λ (n : ℕ). printed_of (fill_of n c)) wide

  same : p.cursor ≡ (fill_of 4096 c).cursor
  same = ap (λ (q : Printed). q.cursor) part

  more : p.count + length (rest_of p.cursor) ≡ length (rest_of c)
  more =
      let all = sym (length-append (fill_of 4096 c).written (rest_of (fill_of 4096 c).cursor)) ∙ ap length (after_fill 4096 c h.steady) in
      omega (arith, all, ap (λ (k : Cursor). length (rest_of k)) same, ap (λ (q : Printed). q.count) part)

  pub most : octets + p.count ≤ length text
  most = omega (arith, more, h.counted)

  pub handed : Handed text p.cursor (octets + p.count)
  handed = record { steady = rw same (fill_steady 4096 c h.steady); counted = omega (arith, more, h.counted); short = h.short }

  pub fewer : 1 ≤ c.left → p.cursor.left < c.left
  fewer some = rw same (fill_lowers 4096 c h.steady (omega arith) some)

-- where no clock call is left, they are all
pub last : (text : List ℕ) (c : Cursor) (octets : ℕ) → Handed text c octets → c.left < 1 → octets ≡ length text
last text c octets h none = omega (arith, h.counted, ap length (none_left c (omega arith)))

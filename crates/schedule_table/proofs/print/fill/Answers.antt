-- `fill` meets its contract. The invariant is `Filling`; the measure is the number of clock calls left.
use Prim.Native.Nat.{ℕ, ◌-◌, ◌≤◌, ◌<◌}
use mathlib.Core.Path.{◌≡◌, ap}
use mathlib.Core.Bool.{Bool, true, false, ◌&&◌}
use lib.Dec.{leb}
use borrow.Author.Tests.{leb-true}
use Rattle.questions.proofs.TestLaws.{both}
use native.Mathlib.Omega.{arith}
use lib.ListN.{length}
use Rattle.schedule_table.specs.declared.print.Cursor.{Cursor}
use Rattle.schedule_table.specs.Print.{next_of}
use Rattle.schedule_table.proofs.CursorLaws.{filling_first, filling_as, filled_count, filled_cursor, filled_stored}
use Rattle.schedule_table.proofs.print.fill.Goals as goal

-- what the loop's test tells, whatever numbers it compares with
calls-left : (k n : ℕ) (b : Bool) → (leb k n && b) ≡ true → k ≤ n
calls-left k n b e = leb-true k n (both (leb k n) b e).0

room : (b : Bool) (k n : ℕ) → (b && leb k n) ≡ true → k ≤ n
room b k n e = leb-true k n (both b (leb k n) e).1

less : (c n : Cursor) → 1 ≤ c.left → n ≡ next_of c → n.left < c.left
unfolding next_of
less c n more e = omega (arith, ap (λ (k : Cursor). k.left) e)

pub loop-cursor-init : goal.loop-cursor-init
loop-cursor-init c = filling_first c.args.out.now c.args.c c.requires

pub overflow_sub-out : goal.overflow_sub-out
overflow_sub-out c = omega (arith, c.loop-cursor.invariant.inside, c.loop-cursor.invariant.same)

pub next_cursor-cursor-requires : goal.next_cursor-cursor-requires
next_cursor-cursor-requires c = (c.loop-cursor.invariant.steady, omega (arith, calls-left))

pub put_newer-at-requires : goal.put_newer-at-requires
put_newer-at-requires c = omega (arith, room)

pub loop-cursor-smaller : goal.loop-cursor-smaller
loop-cursor-smaller c = let l = c.loop-cursor in
    let n = c.next_cursor-cursor in
    let more : 1 ≤ l.cursor.left = omega (arith, calls-left) in
    less l.cursor n.result more n.ensures

pub loop-cursor-preserved : goal.loop-cursor-preserved
loop-cursor-preserved c = let a = c.args in
    let l = c.loop-cursor in
    let n = c.next_cursor-cursor in
    let p = c.put_newer-at in
    let more : 1 ≤ l.cursor.left = omega (arith, calls-left) in
    let wide : 84 ≤ length l.out - l.at = omega (arith, room) in
    filling_as a.out.now a.c l.out l.cursor n.result l.at p.result p.new.out l.invariant n.ensures more wide p.ensures.put p.ensures.upper_bound

pub shape_of-out : goal.shape_of-out
shape_of-out c = c.loop-cursor.invariant.same

pub returns : goal.returns
returns c = let d = c.args.out.now in
    let c₀ = c.args.c in
    let l = c.loop-cursor in
    let ended : (leb 1 l.cursor.left && leb 84 (length l.out - l.at)) ≡ false = c.loop-cursor-test.false in
    let count = filled_count d c₀ l.out l.cursor l.at l.invariant ended in
    let cursor = filled_cursor d c₀ l.out l.cursor l.at l.invariant ended in
    record { value = cc; out_after = filled_stored d c₀ l.out l.cursor l.at l.invariant ended; count_in_bounds = (l.invariant.inside, l.invariant.steady) }

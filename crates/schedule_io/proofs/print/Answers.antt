-- `print` meets its contract.
use Rattle.std.proofs.Common.{ap, ◌∙◌, arith, length}
use Rattle.schedule_table.specs.declared.print.Printed.{Printed}
use Rattle.schedule_table.specs.Schedule.{output_of}
use Rattle.schedule_io.proofs.HandedLaws.{first, most, handed, fewer, last}
use Rattle.schedule_io.proofs.print.Goals as goal

pub returns-then-is_err : goal.returns-then-is_err
returns-then-is_err c =
    let p = c.start-first in
    let h = first c.args.input.now p.result.cursor p.result.count (ap (λ (q : Printed). q.cursor) p.ensures.value) (ap (λ (q : Printed). q.count) p.ensures.value) (omega (arith, p.ensures.count_in_bounds.0)) in
    omega (arith, h.counted)

pub loop-cursor-init : goal.loop-cursor-init
loop-cursor-init c =
    let p = c.start-first in
    (first c.args.input.now p.result.cursor p.result.count (ap (λ (q : Printed). q.cursor) p.ensures.value) (ap (λ (q : Printed). q.count) p.ensures.value) (omega (arith, p.ensures.count_in_bounds.0)), p.auto.out)

pub overflow_add-octets : goal.overflow_add-octets
overflow_add-octets c =
    let l = c.loop-cursor in
    let m = most (output_of c.args.input.now) l.cursor l.octets (length l.out) l.invariant.1 c.fill-more.result l.invariant.0 c.fill-more.ensures.value in
    record { fits = omega (arith, m, l.invariant.0.short) }

pub returns-then-is_err-2 : goal.returns-then-is_err-2
returns-then-is_err-2 c =
    let l = c.loop-cursor in
    most (output_of c.args.input.now) l.cursor l.octets (length l.out) l.invariant.1 c.fill-more.result l.invariant.0 c.fill-more.ensures.value

pub loop-cursor-smaller : goal.loop-cursor-smaller
loop-cursor-smaller c =
    let l = c.loop-cursor in
    fewer (output_of c.args.input.now) l.cursor l.octets (length l.out) l.invariant.1 c.fill-more.result l.invariant.0 c.fill-more.ensures.value c.loop-cursor-test.true

pub loop-cursor-preserved : goal.loop-cursor-preserved
loop-cursor-preserved c =
    let l = c.loop-cursor in
    (handed (output_of c.args.input.now) l.cursor l.octets (length l.out) l.invariant.1 c.fill-more.result l.invariant.0 c.fill-more.ensures.value, c.fill-more.auto.out ∙ l.invariant.1)

pub returns : goal.returns
returns c = last (output_of c.args.input.now) c.loop-cursor.cursor c.loop-cursor.octets c.loop-cursor.invariant.0 c.loop-cursor-test.false

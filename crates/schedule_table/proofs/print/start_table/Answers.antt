-- `start_table` meets its contract.
use native.Mathlib.Omega.{arith}
use Rattle.schedule_table.proofs.CursorLaws.{started}
use Rattle.schedule_table.proofs.print.start_table.Goals as goal

pub returns : goal.returns
returns c = let first = c.first_cursor-cursor in
    let e₁ = c.put_header-p.ensures in
    let e₂ = c.put_row-q.ensures in
    let e₃ = c.put_row-count.ensures in
    let s = started c.args.a first.result first.ensures e₁ e₂.put e₃.put (omega (arith, c.requires.1, e₁.after, e₂.upper_bound, e₃.upper_bound)) in
    record { value = s.0; out_after = s.1.0; count_in_bounds = s.1.1 }

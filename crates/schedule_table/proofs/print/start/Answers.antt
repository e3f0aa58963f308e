-- `start` meets its contract: what is read says which part is written.
use mathlib.Core.Path.{◌≡◌, sym, ap, ◌∙◌}
use native.Mathlib.Omega.{arith}
use Rattle.key_traffic.specs.Octets.{overlay}
use Rattle.schedule_table.specs.declared.print.Printed.{Printed}
use Rattle.std.specs.Prelude.{None, Some}
use Rattle.schedule_table.specs.Print.{Part, printed_of, nothing_asked}
use Rattle.schedule_table.proofs.InputLaws.{table_is}
use Rattle.schedule_table.proofs.CursorLaws.{start_is, cursor_steady, refused_fits}
use Rattle.schedule_table.proofs.print.start.Goals as goal

pub start_table-requires : goal.start_table-requires
start_table-requires c = ((table_is c.args.input.now c.in-Some.a (sym c.read.ensures ∙ c.in-Some.is)).1, c.requires)

pub returns-in-Some : goal.returns-in-Some
returns-in-Some c =
    let s = c.args.input.now in
    let a = c.in-Some.a in
    let t = c.start_table in
    let i = sym c.read.ensures ∙ c.in-Some.is in
    let p = start_is s (Some a) i in
    record {
      value = t.ensures.value ∙ ap printed_of p;
      out_after = t.ensures.out_after ∙ ap (λ (q : Part). overlay c.args.out.now q.written) p;
      count_in_bounds = (t.ensures.count_in_bounds, cursor_steady a t.result (table_is s a i).1 (ap (λ (q : Printed). q.cursor) t.ensures.value));
    }

pub returns-in-None : goal.returns-in-None
returns-in-None c =
    let t = c.start_refused in
    let p = start_is c.args.input.now None (sym c.read.ensures ∙ c.in-None.is) in
    let count : t.result.count ≡ 2 = ap (λ (q : Printed). q.count) t.ensures.value in
    record {
      value = t.ensures.value ∙ ap printed_of p;
      out_after = t.ensures.out_after ∙ ap (λ (q : Part). overlay c.args.out.now q.written) p;
      count_in_bounds = (omega arith, cursor_steady nothing_asked t.result refused_fits (ap (λ (q : Printed). q.cursor) t.ensures.value));
    }

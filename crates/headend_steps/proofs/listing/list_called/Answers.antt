-- `headend_steps::listing::list_called` meets its contract.
use mathlib.Core.Path.{sym, ◌∙◌}
use Rattle.headend_steps.proofs.AskedLaws.{list_asked}
use Rattle.headend_steps.proofs.listing.list_called.Goals as goal

pub grown-requires : goal.grown-requires
grown-requires c = let x = c.args in
    let asked = list_asked x.h x.address x.allowed x.l x.bad x.clash x.len x.octets (sym c.list_answer.ensures ∙ c.in-Ok.is) in
    (asked.entry_room, asked.few)

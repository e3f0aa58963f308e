-- `key_association::search::is_hit` meets its contract.
use Rattle.key_association.specs.declared.search.Probe.{Probe}
use Rattle.key_association.specs.Search.{hit_of}
use mathlib.Core.Bool.{not}
use mathlib.Core.Path.{sym, ap, ◌∙◌}
use Rattle.key_association.proofs.search.is_hit.Goals as goal

pub returns-in-OfSaid : goal.returns-in-OfSaid
returns-in-OfSaid c = sym (ap (λ (p : Probe). hit_of p c.args.a) c.in-OfSaid.is)

pub returns-in-OutOfLimits : goal.returns-in-OutOfLimits
returns-in-OutOfLimits c = ap not c.record_fits.ensures
    ∙ sym (ap (λ (p : Probe). hit_of p c.args.a) c.in-OutOfLimits.is)

pub returns-in-OfOneOf : goal.returns-in-OfOneOf
returns-in-OfOneOf c = c.is_named.ensures
    ∙ sym (ap (λ (p : Probe). hit_of p c.args.a) c.in-OfOneOf.is)

-- `key_records::first` meets its contract.
use Rattle.std.proofs.Common.{rules}
use borrow.Author.Tests.{tests}
use Rattle.std.proofs.lemmas.Iterator.{YieldsList-from_slice}
use Rattle.std.proofs.lemmas.Iterator.Search.{position_from_yields_List}
use Rattle.key_association.specs.Search.{hit_of}
use Rattle.key_records.proofs.RecordsLaws.{first_position}
use Rattle.key_records.proofs.first.Goals as goal

pub returns : goal.returns
returns c = first_position (hit_of c.args.p) c.args.records.now c.position.result c.unwrap_or.result
    (position_from_yields_List (hit_of c.args.p) _ _ _ c.position.ensures.ran (YieldsList-from_slice c.args.records.now cc) (λ x b q k. search (rules, tests)))
    c.unwrap_or.ensures

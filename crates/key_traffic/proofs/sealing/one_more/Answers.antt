-- `key_traffic::sealing::one_more` meets its contract.
use Rattle.std.proofs.Common.{rules}
use borrow.Author.Tests.{tests}
use Rattle.key_traffic.specs.Sealing.{one_more_of}
use Rattle.key_traffic.proofs.sealing.one_more.Goals as goal

pub returns : goal.returns
unfolding one_more_of
returns c = search (rules, tests)

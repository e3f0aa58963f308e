-- `key_traffic::traffic::key_from` meets its contract.
use Rattle.key_traffic.proofs.TrafficLaws.{key_by}
use Rattle.key_traffic.proofs.traffic.key_from.Goals as goal

pub returns : goal.returns
returns c = let x = c.args in
    key_by x.m.now x.at x.w x.number x.deadline c.octets.result c.octets-2.result c.octets.ensures c.octets-2.ensures

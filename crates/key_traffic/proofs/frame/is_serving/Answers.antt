-- `key_traffic::frame::is_serving` meets its contract.
use Rattle.key_traffic.proofs.FrameLaws.{serves_by}
use Rattle.key_traffic.proofs.frame.is_serving.Goals as goal

pub returns : goal.returns
returns c = serves_by _ _ _ _ c.eq.ensures

-- `key_traffic::sealing::put_opened` meets its contract.
use Rattle.key_traffic.proofs.sealing.put_opened.Goals as goal

pub returns-in-Some : goal.returns-in-Some
returns-in-Some c = rw (c.in-Some.is, ← c.of.ensures) c.put_key.ensures

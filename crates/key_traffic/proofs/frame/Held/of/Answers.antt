-- `key_traffic::frame::Held::of` meets its contract.
use mathlib.Core.Path.{refl}
use Rattle.key_traffic.proofs.frame.Held.of.Goals as goal

pub returns-in-Newer : goal.returns-in-Newer
returns-in-Newer c = rw c.in-Newer.is refl

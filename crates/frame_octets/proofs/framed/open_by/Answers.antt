-- `frame_octets::framed::open_by` meets its contract.
use mathlib.Core.Path.{◌≡◌}
use Rattle.std.proofs.Common.{rules}
use Rattle.key_traffic.specs.Opening.{ByOlder}
use Rattle.frame_octets.proofs.framed.open_by.Goals as goal

pub returns-in-Some-Older : goal.returns-in-Some-Older
returns-in-Some-Older c = let by : c.args.o ≡ ByOlder = search (rules, c.in-Some-Older.is, c.in-Some-Older.field-0-is) in
    rw by c.open_under.ensures

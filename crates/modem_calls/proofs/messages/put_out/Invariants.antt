-- `modem_calls::messages::put_out` meets its contract.
use Prim.Native.Nat.{◌*◌, ◌≤◌}
use mathlib.Core.Path.{◌≡◌}
use lib.ListN.{length, take}
use lib.Seq.{sets}
use Rattle.modem_calls.specs.Messages.{requests_octets}
use Rattle.modem_calls.proofs.messages.put_out.Given as goal

abbrev pub invariant-loop-r : goal.invariant-loop-r
invariant-loop-r l = (l.out ≡ sets l.initial.out 0 (requests_octets l.key (take l.r-index l.r-items))) × ((l.at ≡ length (requests_octets l.key (take l.r-index l.r-items))) × (l.at ≤ 36 * l.r-index))

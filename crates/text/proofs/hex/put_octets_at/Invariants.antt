-- The invariant: so many octets are decoded.
use Rattle.std.proofs.Common.{◌≡◌, ◌*◌, length, take, drop}
use Rattle.key_traffic.specs.Octets.{overlay}
use Rattle.text.specs.Hex.{octets_value}
use Rattle.text.proofs.hex.put_octets_at.Given as goal

abbrev pub invariant-loop-i : goal.invariant-loop-i
invariant-loop-i l = (length l.out ≡ length l.initial.out) × (l.out ≡ overlay l.initial.out (take l.i (octets_value (take (2 * l.count) (drop l.at l.line)))))

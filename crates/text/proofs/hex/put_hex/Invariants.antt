-- The invariant: the digits of so many octets are stored.
use Rattle.std.proofs.Common.{◌≡◌, ◌+◌, ◌*◌, length, take}
use Rattle.std.proofs.Math.Seq.{sets}
use Rattle.text.specs.Hex.{hex_of}
use Rattle.text.proofs.hex.put_hex.Given as goal

abbrev pub invariant-loop-x : goal.invariant-loop-x
invariant-loop-x l = (l.place ≡ l.at + 2 * l.x-index) × (length l.out ≡ length l.initial.out) × (l.out ≡ sets l.initial.out l.at (hex_of (take l.x-index l.v)))

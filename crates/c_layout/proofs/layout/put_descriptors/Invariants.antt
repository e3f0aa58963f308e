-- `c_layout::layout::put_descriptors` meets its contract.
use Prim.Native.Nat.{◌+◌, ◌*◌}
use mathlib.Core.Path.{◌≡◌}
use lib.ListN.{take}
use Rattle.key_traffic.specs.Put.{Put}
use Rattle.c_layout.specs.Layout.{descriptors_laid}
use Rattle.c_layout.proofs.layout.put_descriptors.Given as goal

abbrev pub invariant-loop-d : goal.invariant-loop-d
invariant-loop-d l = record {
  put : Put l.initial.out l.at (descriptors_laid (take l.d-index l.fn.ds)) l.end l.out;
  counted : l.end ≡ l.at + 5 * l.d-index;
}

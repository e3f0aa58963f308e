-- `message_attributes::octets::part` meets its contract.
use Prim.Native.Nat.{◌-◌}
use mathlib.Core.Path.{◌≡◌, sym, ◌∙◌}
use native.Mathlib.Omega.{arith}
use native.Mathlib.Nat.{add-sub_cancel_left}
use lib.ListN.{length, drop, length-drop, drop_of_length-le}
use lib.Seq.{take-nil, take_all}
use Rattle.message_attributes.proofs.octets.part.Goals as goal

pub returns-then-s-start : goal.returns-then-s-start
returns-then-s-start c = rw (drop_of_length-le c.args.s.now {i = c.args.start} (omega arith)) (sym (take-nil c.args.len))

pub returns-then-s-start-2 : goal.returns-then-s-start-2
returns-then-s-start-2 c = let s = c.args.s.now in
    let i = c.args.start in
    let l : length (drop i s) ≡ length s - i = length-drop i s in
    take_all (length s - i) (drop i s) (omega arith) ∙ sym (take_all c.args.len (drop i s) (omega arith))

pub returns-else-s-start-2 : goal.returns-else-s-start-2
returns-else-s-start-2 c = rw add-sub_cancel_left

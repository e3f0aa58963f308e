-- The loop of `message_holders::pass::pass_body`: what the pass has at the reader's place, and how many octets are left behind it.
use Rattle.std.proofs.Common.{◌≡◌, ◌-◌, length}
use Rattle.message_holders.proofs.PassLaws.{BodyAt}
use Rattle.message_holders.proofs.pass.pass_body.Given as goal

abbrev pub invariant-loop-r : goal.invariant-loop-r
invariant-loop-r l = (l.a.message.now ≡ l.m) × BodyAt l.h l.m l.a.at l.r

abbrev pub decreases-loop-r : goal.decreases-loop-r
decreases-loop-r l = length l.m - l.a.at

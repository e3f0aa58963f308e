-- `digest::put20` meets its contract: what is copied stands from `at` on.
use Rattle.std.proofs.Common.{◌≡◌, ◌+◌, ◌-◌, ◌≤◌, length, arith, append_assoc, drop-drop}
use lib.Seq.{sets-eq}
use Rattle.digest_hmac.proofs.digest.put20.Goals as goal

pub returns : goal.returns
returns c =
    let d = c.args.d in
    let out = c.args.out.now in
    let at = c.args.at in
    let n : at + 20 - at ≡ 20 = omega arith in
    let long : length d ≡ 20 = omega arith in
    let fits : at + length d ≤ length out = omega arith in
    rw (n, sets-eq d out at fits, long, c.copy_from_slice.ensures.after, drop-drop, append_assoc)

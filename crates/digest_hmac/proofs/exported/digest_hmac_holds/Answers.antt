-- `exported::digest_hmac_holds` meets its contract: each test decides the contract's.
use Rattle.std.proofs.Common.{length, arith}
use borrow.Author.Tests.{le-leb}
use Rattle.digest_hmac.specs.Hmac.{holds_within}
use Rattle.digest_hmac.proofs.FillLaws.{above_within, short_within}
use Rattle.digest_hmac.proofs.exported.digest_hmac_holds.Goals as goal
use Rattle.digest_hmac.proofs.exported.digest_hmac_holds.Goals.{else-upto-message-via-then-upto-message+then-message-ge-DIGEST_OCTETS+else-at-message, else-upto-message-via-then-upto-message+else-message-ge-DIGEST_OCTETS, else-upto-message-via-else-upto-message}

pub returns-then-at-message : goal.returns-then-at-message
unfolding holds_within
returns-then-at-message c = rw (le-leb c.args.upto (length c.args.message.now) c.if-upto-message.true) c.digest_holds.ensures

pub returns-else-upto-message : goal.returns-else-upto-message
returns-else-upto-message c =
    let m = c.args.message.now in
    let k = c.args.key.now in
    elim c.else-upto-message.branch [
      | else-upto-message-via-then-upto-message+then-message-ge-DIGEST_OCTETS+else-at-message w ↦ short_within m c.args.upto k c.args.at (omega arith)
      | else-upto-message-via-then-upto-message+else-message-ge-DIGEST_OCTETS w ↦ short_within m c.args.upto k c.args.at (omega arith)
      | else-upto-message-via-else-upto-message w ↦ above_within m c.args.upto k c.args.at (omega arith)
    ]

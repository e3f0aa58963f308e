-- `pad::marked` meets its contract: the octets of `s` stand before zeros, and the first of these becomes the mark.
use Rattle.std.proofs.Common.{refl}
use Rattle.digest_sha1.proofs.PadLaws.{marked_is}
use Rattle.digest_sha1.proofs.pad.marked.Goals as goal

pub returns : goal.returns
returns c = rw (c.copy_from_slice.ensures.after) (marked_is c.args.s.now _ c.requires refl)

-- `pad::with_length` meets its contract: what is stored ends the block, and is the length in bits.
use Rattle.std.proofs.Common.{◌≡◌, ◌*◌, ◌∙◌, ◌≤◌, [], length, drop, arith, drop-drop, drop_of_length-le, append-nil}
use Rattle.digest_sha1.specs.Sha1.{octets8}
use Rattle.digest_sha1.proofs.PadLaws.{length_octets}
use Rattle.digest_sha1.proofs.pad.with_length.Goals as goal

pub returns : goal.returns
returns c =
    let v : c.copy_from_slice.new.self ≡ octets8 (8 * c.args.n)
    = c.copy_from_slice.ensures.after ∙ c.to_be_bytes.ensures ∙ length_octets c.args.n in
    let fits : length c.args.block ≤ 64 = omega arith in
    let over : drop 64 c.args.block ≡ [] = drop_of_length-le c.args.block fits in
    rw (v, drop-drop, over, append-nil)

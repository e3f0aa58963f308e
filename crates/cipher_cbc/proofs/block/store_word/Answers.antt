-- `block::store_word` meets its contract: four octets stored at once are four stores, one behind the other.
use Rattle.std.proofs.Common.{◌≡◌, ◌+◌, ◌-◌, ◌∙◌, arith, append_assoc, drop-drop}
use lib.Seq.{sets-eq}
use Rattle.cipher_aes.specs.Words.{word}
use Rattle.cipher_cbc.proofs.block.store_word.Goals as goal

pub returns : goal.returns
unfolding word
returns c =
    let e : c.args.at + 4 - c.args.at ≡ 4 = omega arith in
    let v : c.copy_from_slice.new.self ≡ word c.args.x = c.copy_from_slice.ensures.after ∙ c.to_be_bytes.ensures in
    rw (e, sets-eq (word c.args.x) c.args.out.now c.args.at c.requires, v, drop-drop, append_assoc)

-- `block::load_word` meets its contract: four octets.
use Rattle.std.proofs.Common.{◌+◌, ◌∙◌}
use Rattle.cipher_aes.proofs.WordLaws.{word_of_octets}
use Rattle.cipher_cbc.proofs.SliceLaws.{four_at}
use Rattle.cipher_cbc.proofs.block.load_word.Goals as goal

pub returns : goal.returns
returns c =
    let o = c.type_inv.s in
    simp (c.from.ensures, c.from-2.ensures, c.from-3.ensures, c.from-4.ensures)
    (word_of_octets _ _ _ _ (o c.args.at).fits (o (c.args.at + 1)).fits (o (c.args.at + 2)).fits (o (c.args.at + 3)).fits
    ∙ four_at _ _ c.requires)

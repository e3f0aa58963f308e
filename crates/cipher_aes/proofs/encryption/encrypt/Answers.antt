-- `encryption::encrypt` meets its contract: x is the State after so many rounds.
use Rattle.std.proofs.Common.{◌≡◌, refl, ap, ap₂, ◌∙◌, add-one, arith, length-take, length-drop}
use Rattle.cipher_aes.specs.Cipher.{round, final_round_of, rounds, cipher}
use Rattle.cipher_aes.specs.Words.{key_at}
use Rattle.cipher_aes.specs.declared.words.State.{State}
use Rattle.cipher_aes.proofs.ScheduleLaws.{later_key}
use Rattle.cipher_aes.proofs.encryption.encrypt.Goals as goal

pub loop-key-init : goal.loop-key-init
unfolding rounds
loop-key-init c = refl

pub loop-key-preserved : goal.loop-key-preserved
unfolding rounds
loop-key-preserved c =
    let i = c.loop-key.key-index in
    let w = c.args.keys.now in
    let k = later_key w i (omega (arith, length-take {A = State}, length-drop {A = State})) in
    rw add-one (c.round-x.ensures ∙ ap₂ round k c.loop-key.invariant)

pub returns : goal.returns
unfolding cipher key_at
returns c =
    let w = c.args.keys.now in
    let n : c.loop-key.key-index ≡ 9 = omega (arith, length-take {A = State}, length-drop {A = State}) in
    c.final_round.ensures
    ∙ ap (final_round_of (key_at w 10)) (c.loop-key.invariant ∙ ap₂ (rounds (key_at w)) n c.add_round_key-x.ensures)

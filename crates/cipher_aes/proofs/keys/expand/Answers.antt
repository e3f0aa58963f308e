-- `keys::expand` meets its contract: the round keys up to i are stored.
use Rattle.std.proofs.Common.{◌≡◌, ◌+◌, refl, arith, length-set}
use Rattle.cipher_aes.specs.Keys.{round_key}
use Rattle.cipher_aes.specs.Words.{state, key_at}
use Rattle.cipher_aes.proofs.ScheduleLaws.{one_key_more, made}
use Rattle.cipher_aes.proofs.keys.expand.Goals as goal

pub loop-i-init : goal.loop-i-init
unfolding key_at round_key
loop-i-init c = (refl, λ j h. let e : j ≡ 0 = omega arith in rw e)

pub loop-i-preserved : goal.loop-i-preserved
unfolding key_at
loop-i-preserved c =
    let i = c.loop-i.i in
    let h = c.loop-i.invariant in
    let next : state c.next_key.result ≡ round_key (state c.args.key) (i + 1)
    = made c.args.key i _ _ _ c.round_constant.ensures (h.1 i (omega arith)) c.next_key.ensures in
    (simp length-set h.0, one_key_more c.loop-i.keys c.next_key.result (round_key (state c.args.key)) (i + 1) (omega arith) next h.1)

pub returns : goal.returns
returns c = λ i h. c.loop-i.invariant.1 i (omega arith)

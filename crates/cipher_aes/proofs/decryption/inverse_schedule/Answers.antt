-- `decryption::inverse_schedule` meets its contract: the first round keys are through InvMixColumns, the others are as they were.
use Rattle.std.proofs.Common.{◌≢◌, refl, ap, ◌∙◌, arith, length-set}
use Rattle.cipher_aes.specs.Cipher.{inv_mix_columns}
use Rattle.cipher_aes.specs.Words.{key_at}
use Rattle.cipher_aes.proofs.ScheduleLaws.{one_key_more, put_other}
use Rattle.cipher_aes.proofs.decryption.inverse_schedule.Goals as goal

pub loop-key-init : goal.loop-key-init
loop-key-init c = (omega arith, λ j h. absurd (omega arith), λ j h. refl)

pub loop-key-preserved : goal.loop-key-preserved
unfolding key_at
loop-key-preserved c =
    let i = c.loop-key.key-index in
    let v = c.loop-key.key-items in
    let h = c.loop-key.invariant in (
      simp length-set h.0,
      one_key_more v c.inv_mixed_key.result (λ j. inv_mix_columns (key_at c.args.keys.now j)) i (omega arith)
          (c.inv_mixed_key.ensures ∙ ap inv_mix_columns (h.2 i (omega arith))) h.1,
      λ j l. let o : j ≢ i = omega arith in put_other v i c.inv_mixed_key.result j o ∙ h.2 j (omega arith),
    )

pub returns : goal.returns
returns c = λ i h. c.loop-key.invariant.1 i (omega arith)

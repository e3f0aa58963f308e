-- `message_digest::digest::is_digest_right` meets its contract.
use Prim.Native.Nat.{ℕ, ◌-◌}
use mathlib.Core.Path.{sym, ap, ◌∙◌}
use mathlib.Core.Logic.{⊎_elim}
use lib.ListN.{length}
use native.Mathlib.Omega.{arith}
use borrow.Author.Tests.{leb-false, eqb-true}
use Rattle.digest_hmac.specs.Hmac.{holds}
use Rattle.message_digest.proofs.DigestLaws.{no_digest, no_room, asked}
use Rattle.message_digest.proofs.digest.is_digest_right.Goals as goal
use Rattle.message_digest.proofs.digest.is_digest_right.Goals.{then-p-eq-DIGEST_OCTETS, else-p-eq-DIGEST_OCTETS, then-message-ge-DIGEST_OCTETS, else-message-ge-DIGEST_OCTETS}

pub returns-then-p-message : goal.returns-then-p-message
returns-then-p-message c = let x = c.args in
    elim c.if-p-eq-DIGEST_OCTETS.branch [
      | then-p-eq-DIGEST_OCTETS v ↦
          c.digest_holds.ensures
          ∙ ap (λ (n : ℕ). holds x.message.now n x.key.now x.p.start) c.covered_up_to.ensures
          ∙ asked x.key.now x.p x.message.now v.if-p-eq-DIGEST_OCTETS.true
      | else-p-eq-DIGEST_OCTETS v ↦ elim c.if-message-ge-DIGEST_OCTETS.branch [
        | then-message-ge-DIGEST_OCTETS w ↦ absurd (v.if-p-eq-DIGEST_OCTETS.false w.if-message-ge-DIGEST_OCTETS.true.0)
        | else-message-ge-DIGEST_OCTETS w ↦ absurd (v.if-p-eq-DIGEST_OCTETS.false (eqb-true x.p.len 20 (sym v.t-6-is ∙ sym w.value-is ∙ c.if-p-message.true)))
      ]
    ]

pub returns-else-p-message : goal.returns-else-p-message
returns-else-p-message c = let x = c.args in
    c.if-p-message.false
    ∙ elim c.if-message-ge-DIGEST_OCTETS.branch [
      | then-message-ge-DIGEST_OCTETS w ↦
          let past = leb-false x.p.start (length x.message.now - 20) (sym w.value-is ∙ c.if-p-message.false) in
          no_room x.key.now x.p x.message.now (omega (arith, past, w.if-message-ge-DIGEST_OCTETS.true))
      | else-message-ge-DIGEST_OCTETS w ↦
          ⊎_elim
          (λ e. no_room x.key.now x.p x.message.now (omega (arith, e)))
          (λ e. no_digest x.key.now x.p x.message.now e)
          w.if-message-ge-DIGEST_OCTETS.either
    ]

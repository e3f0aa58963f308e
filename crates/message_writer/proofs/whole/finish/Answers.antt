-- `message_writer::whole::finish` meets its contract.
use Prim.Native.Nat.{ℕ, ◌+◌}
use mathlib.Core.Path.{ap}
use Rattle.message_writer.proofs.WholeLaws.{in_order}
use Rattle.message_writer.proofs.whole.finish.Goals as goal

pub returns : goal.returns
returns c = let a = c.args in
    let digest = c.put_digest-len.ensures.wrote in (
      ap (λ (n : ℕ). 4 + n) digest.counted,
      in_order
          a.code
          a.identifier
          a.key.now
          a.before
          a.out.now
          digest
          c.put_message_head.ensures
          c.store_digest.ensures,
    )

-- `key_records::store` meets its contract.
use Rattle.std.proofs.Common.{ℕ, ◌≡◌, ◌+◌, ◌-◌, List, take, drop, set, ap, ◌∙◌, arith}
use Rattle.key_association.specs.declared.record.Assoc.{Assoc}
use Rattle.key_records.proofs.RecordsLaws.{store_none, store_step}
use Rattle.key_records.proofs.store.Goals as goal

pub loop-i-init : goal.loop-i-init
loop-i-init c = let a = c.args in store_none 0 a.half a.clock a.material.now a.l _

pub loop-i-preserved : goal.loop-i-preserved
loop-i-preserved c =
    let a = c.args in
    let i = c.loop-i.i in
    let place : i ≡ 0 + i = omega arith in
    let part = take (a.at + a.count - a.at) (drop a.at a.records.now) in
    ap (λ (k : ℕ). set c.loop-i.a-items k c.listed.result) place
    ∙ ap (λ (xs : List Assoc). set xs (0 + i) c.listed.result) c.loop-i.invariant
    ∙ store_step 0 a.half a.clock a.material.now a.l part i (omega arith) c.listed.result c.listed.ensures

-- `key_records::roll` meets its contract.
use Rattle.std.proofs.Common.{ℕ, ◌≡◌, ◌<◌, ◌*◌, ◌++◌, length, take, drop, get_or, set, sym, ap, ◌∙◌, subst, List, arith}
use lib.Seq.{length-take-le}
use Rattle.key_association.specs.declared.record.Assoc.{Assoc}
use Rattle.key_association.specs.Record.{Rollable}
use Rattle.key_association.specs.Roll.{rolled_of}
use Rattle.key_records.specs.Records.{none, rolled_to}
use Rattle.key_records.proofs.RecordsLaws.{roll_ready, roll_step, rolled_front, fit_front}
use Rattle.key_records.proofs.roll.Goals as goal

pub rolled-requires : goal.rolled-requires
rolled-requires c =
    let a = c.args in
    let fit = fit_front a.half a.t a.material.now a.used (length a.material.now) a.records.now c.requires in
    let small : c.loop-i.i < a.used = omega (arith, length-take-le a.used a.records.now c.requires.places, c.loop-i-test.true) in (
      subst (λ (xs : List Assoc). Rollable a.half a.t (get_or xs c.loop-i.i none)) (sym c.loop-i.invariant)
          (roll_ready a.half a.t a.material.now (take a.used a.records.now) c.loop-i.i a.used (length a.material.now) fit small),
      omega arith,
    )

pub loop-i-preserved : goal.loop-i-preserved
loop-i-preserved c =
    let a = c.args in
    let i = c.loop-i.i in
    let made = c.rolled.ensures ∙ ap (λ (xs : List Assoc). rolled_of a.half a.t a.material.now (i * 64) (get_or xs i none)) c.loop-i.invariant in
    ap (λ (xs : List Assoc). set xs i c.rolled.result) c.loop-i.invariant
    ∙ roll_step a.half a.t a.material.now (take a.used a.records.now) i (omega arith) c.rolled.result made

pub returns : goal.returns
returns c =
    let a = c.args in
    let all : c.loop-i.i ≡ a.used = omega (arith, length-take-le a.used a.records.now c.requires.places) in
    ap (λ (xs : List Assoc). xs ++ drop a.used a.records.now) c.loop-i.invariant
    ∙ ap (λ (k : ℕ). rolled_to a.half a.t a.material.now 0 k (take a.used a.records.now) ++ drop a.used a.records.now) all
    ∙ rolled_front a.half a.t a.material.now 0 a.used a.records.now

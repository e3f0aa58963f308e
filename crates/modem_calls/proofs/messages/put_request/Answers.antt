-- `modem_calls::messages::put_request` meets its contract.
use mathlib.Core.List.{[]}
use mathlib.Core.Path.{◌∙◌}
use native.Mathlib.Omega.{arith}
use Rattle.message_digest.proofs.CountLaws.{count_of}
use Rattle.modem_calls.proofs.PutLaws.{put_at, put_count}
use Rattle.modem_calls.proofs.messages.put_request.Goals as goal

pub overflow_add-result : goal.overflow_add-result
overflow_add-result c = let a = c.args in
    let p = c.requires in
    let count = c.unwrap_or-count.ensures ∙ count_of c.request_fields.result [] a.key.now _ c.write.result c.write.ensures.0 in
    record { fits = omega (arith, put_count a.r p.0 a.key.now p.1 c.request_fields.result c.request_fields.ensures a.out.now a.at p.2 c.unwrap_or-count.result count, p.0.short a.key.now, p.2) }

pub returns : goal.returns
returns c = let a = c.args in
    let p = c.requires in
    let count = c.unwrap_or-count.ensures ∙ count_of c.request_fields.result [] a.key.now _ c.write.result c.write.ensures.0 in
    put_at a.r p.0 a.key.now p.1 c.request_fields.result c.request_fields.ensures a.out.now a.at p.2 c.unwrap_or-count.result _ count c.write.ensures.1

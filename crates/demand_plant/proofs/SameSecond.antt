-- A Key Request that is answered twice in one second gets the same octets twice, whatever steps stand between (document 01, "Traffic
-- keys at the head-end" and "Ways to lose a key": minting on a Key Request).
use mathlib.Core.Path.{◌≡◌, sym, ◌∙◌, ap}
use mathlib.Core.List.{List}
use Prim.Native.Nat.{ℕ}
use lib.ListN.{get_or}
use Rattle.key_association.specs.declared.record.Assoc.{Assoc}
use Rattle.message_rules.specs.declared.fields.Receiver.TheVariants.{HeadEnd as AtHeadEnd}
use Rattle.message_rules.specs.Reading.{read_of}
use Rattle.message_digest.specs.Digest.{signed_of}
use Rattle.key_records.specs.Records.{lookup_of}
use Rattle.headend_limits.specs.Search.{of_request_of}
use Rattle.headend_answers.specs.AnswerFields.{key_reply_of}
use Rattle.headend_calls.specs.Calls.{receive_octets}
use Rattle.headend_calls.proofs.FoundLaws.{same_found}
use Rattle.headend_calls.proofs.ReplyLaws.{replies, key_free, reply_seen}
use Rattle.demand_plant.specs.World.{World, Step}
use Rattle.demand_plant.specs.Run.{world_after}
use Rattle.demand_plant.proofs.HeadKept.{run_keeps}

-- In any world, with any steps between that leave the head-end's clock at its second: where the octets written for one message of one
-- address start with a Key Reply's code before them and after them, they are the same, under one write key, whatever read key, AUTH-Key and slice come with it
pub same_second_written : (w : World) (ss : List Step) → (world_after w ss).head.clock ≡ w.head.clock
    → (address : ℕ) (write s : List ℕ) (d₁ d₂ key₁ key₂ : List ℕ) (n₁ n₂ : ℕ)
    → get_or (receive_octets w.head w.records address d₁ write s key₁ n₁) 0 0 ≡ 8
    → get_or (receive_octets (world_after w ss).head (world_after w ss).records address d₂ write s key₂ n₂) 0 0 ≡ 8
    → receive_octets w.head w.records address d₁ write s key₁ n₁ ≡ receive_octets (world_after w ss).head (world_after w ss).records address d₂ write s key₂ n₂
same_second_written w ss still address write s d₁ d₂ key₁ key₂ n₁ n₂ o₁ o₂ =
    let v = world_after w ss in
    let f = (read_of AtHeadEnd s).fields in
    let p = of_request_of (read_of AtHeadEnd s) in
    let a = (lookup_of p w.records).held in
    let p₁ = reply_seen w.head w.records address d₁ s write key₁ n₁ o₁ in
    let p₂ = reply_seen v.head v.records address d₂ s write key₂ n₂ o₂ in
    let first = replies w.head w.records address d₁ s write key₁ n₁ p₁.0 p₁.1 in
    let second = replies v.head v.records address d₂ s write key₂ n₂ p₂.0 p₂.1 in
    let same : (lookup_of p v.records).held ≡ a
    = same_found p w.head.used v.head.used w.records v.records (run_keeps ss w still).front first.all_lent second.all_lent first.place second.place in
    first.written
    ∙ key_free w.head.clock a f key₁ key₂ write
    ∙ ap (λ (t : ℕ). signed_of (key_reply_of t a f) key₂ write) (sym still)
    ∙ ap (λ (b : Assoc). signed_of (key_reply_of v.head.clock b f) key₂ write) (sym same)
    ∙ sym second.written

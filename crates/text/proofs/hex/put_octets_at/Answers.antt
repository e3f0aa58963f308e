-- `put_octets_at` meets its contract.
use Rattle.std.proofs.Common.{◌≡◌, ◌≤◌, ◌<◌, ◌*◌, ◌+◌, ap, ◌∙◌, ℕ, List, [], arith, length, take, drop, get_or}
use Rattle.std.proofs.Math.ListN.{length-set}
use Rattle.std.proofs.Math.Seq.{take_all}
use Rattle.key_traffic.specs.Octets.{overlay}
use Rattle.std.specs.Simd.{first_chunks}
use Rattle.text.specs.Hex.{hex_value_of, octets_value}
use Rattle.text.proofs.HexLaws.{octet_at, digits_length, pairs_are, decoded, decoded_length}
use Rattle.text.proofs.hex.put_octets_at.Goals as goal

pub loop-i-preserved : goal.loop-i-preserved
loop-i-preserved c =
    let l = c.loop-i in
    let a = c.args in
    let digits = take (2 * a.count) (drop a.at a.line.now) in
    let two : length digits ≡ 2 * a.count = digits_length a.line.now a.at a.count c.requires.0 in
    let pairs : c.as_chunks.result.0.now ≡ first_chunks 2 a.count digits = c.as_chunks.ensures.front ∙ pairs_are a.line.now a.at a.count c.requires.0 in
    let small : l.i < a.count = omega (arith, c.as_chunks.ensures.front_len) in
    let here : c.octet.result ≡ get_or (octets_value digits) l.i 0 =
    c.octet.ensures
    ∙ ap (λ (p : List (List ℕ)). hex_value_of (get_or (get_or p l.i []) 0 0) * 16 + hex_value_of (get_or (get_or p l.i []) 1 0)) pairs
    ∙ octet_at a.count digits l.i two small in
    (simp length-set l.invariant.0, decoded a.line.now a.at a.count c.requires.0 a.out.now l.out l.i c.octet.result small c.requires.1 here l.invariant.1)

pub returns : goal.returns
returns c =
    let a = c.args in
    let l = c.loop-i in
    let o = octets_value (take (2 * a.count) (drop a.at a.line.now)) in
    let two : length (take (2 * a.count) (drop a.at a.line.now)) ≡ 2 * a.count = digits_length a.line.now a.at a.count c.requires.0 in
    let all : length o ≤ l.i = omega (arith, decoded_length a.line.now a.at a.count c.requires.0, c.as_chunks.ensures.front_len) in
    l.invariant.1 ∙ ap (overlay a.out.now) (take_all l.i o all)

-- `modem_calls::messages::put_out` meets its contract.
use Prim.Native.Nat.{◌≤◌, ◌<◌}
use mathlib.Core.Path.{◌≡◌, refl, ◌∙◌, ap, subst, sym}
use mathlib.Core.List.{List}
use native.Mathlib.Omega.{arith}
use lib.ListN.{length, take}
use lib.Seq.{sets, take_all, length-take-le}
use Rattle.std.proofs.lemmas.List.{get_or-take}
use Rattle.modem_tek.specs.declared.parts.Request.{Request}
use Rattle.modem_tek.specs.TekParts.{nothing}
use Rattle.modem_calls.specs.Messages.{requests_octets, out_octets, RequestFits}
use Rattle.modem_calls.proofs.OutLaws.{out_short}
use Rattle.modem_calls.proofs.PutLaws.{put_more, length_more, put_all}
use Rattle.modem_calls.proofs.messages.put_out.Goals as goal

pub loop-r-init : goal.loop-r-init
unfolding requests_octets
loop-r-init c = (refl, (refl, omega arith))

pub put_request-at-requires : goal.put_request-at-requires
put_request-at-requires c = let o = c.args.o in
    let p = c.requires in
    let l = c.loop-r in
    let long : length (take o.count o.sent) ≡ o.count = length-take-le o.count o.sent (omega (arith, p.0.six, p.0.count)) in
    let inside : l.r-index < o.count = omega (arith, long, c.loop-r-test.true) in (
      subst RequestFits (sym (get_or-take o.count o.sent l.r-index nothing inside)) (p.0.each l.r-index inside),
      p.1,
      omega (arith, l.auto.out, p.0.count, p.2, l.invariant.1.1, inside),
    )

pub loop-r-preserved : goal.loop-r-preserved
loop-r-preserved c = let a = c.args in
    let l = c.loop-r in
    let key = a.key.now in
    let sent : List Request = take a.o.count a.o.sent in
    let e = c.put_request-at.ensures in (
      e.0 ∙ put_more key sent l.r-index c.loop-r-test.true a.out.now l.out l.at l.invariant.0 l.invariant.1.0,
      (length_more key sent l.r-index c.loop-r-test.true l.at c.put_request-at.result l.invariant.1.0 e.1.0, omega (arith, e.1.1, l.invariant.1.1)),
    )

pub returns : goal.returns
unfolding out_octets
returns c = let a = c.args in
    let p = c.requires in
    let l = c.loop-r in
    let key = a.key.now in
    let sent : List Request = take a.o.count a.o.sent in
    let all : take l.r-index sent ≡ sent = take_all l.r-index sent (omega (arith, c.loop-r-test.false)) in
    let fits : length (out_octets key a.o) ≤ length a.out.now = omega (arith, out_short key a.o 6 p.0, p.2) in (
      l.invariant.0 ∙ ap (λ (rs : List Request). sets a.out.now 0 (requests_octets key rs)) all ∙ put_all a.out.now (out_octets key a.o) fits,
      l.invariant.1.0 ∙ ap (λ (rs : List Request). length (requests_octets key rs)) all,
    )

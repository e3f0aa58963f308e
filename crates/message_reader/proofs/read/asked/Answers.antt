-- `message_reader::read::asked` meets its contract.
use mathlib.Core.Path.{◌≡◌, sym, ap, ◌∙◌}
use mathlib.Core.Bool.{Bool, true, false, ◌&&◌}
use native.Mathlib.Omega.{arith}
use Prim.Native.Nat.{◌+◌, ◌≤◌, ◌<◌}
use lib.ListN.{length}
use lib.Seq.{length-take-le}
use Rattle.std.specs.Prelude.{Ok, Err}
use Rattle.std.proofs.lemmas.Result.{err_from_is_err_and}
use Rattle.message_rules.proofs.AskLaws.{asked_yes, asked_no}
use Rattle.message_rules.specs.Messages.{receives}
use Rattle.message_reader.specs.Taken.{complete_in, taken_from, as_asked}
use Rattle.message_reader.proofs.ReadLaws.{whole_fits, no_6, no_7, bad_body, bad_inside, wrong, taken_is}
use Rattle.message_reader.proofs.CodeLaws.{received_code, code_small}
use Rattle.message_reader.proofs.read.asked.Goals as goal

pub returns-in_err-ask : goal.returns-in_err-ask
returns-in_err-ask c = let a = c.args in
    let q = asked_no _ _ _ c.in_err-ask.ensures in
    let p = err_from_is_err_and c.from_residual.result c.from_residual.ensures.1 in
    p.1 ∙ ap Err (p.2 ∙ q.1) ∙ ap as_asked (no_6 a.e a.s.now (sym c.is_whole.ensures ∙ q.0))

pub returns-in_err-ask-2 : goal.returns-in_err-ask-2
returns-in_err-ask-2 c = let a = c.args in
    let q = asked_no _ _ _ c.in_err-ask-2.ensures in
    let p = err_from_is_err_and c.from_residual-in_err-ask-2.result c.from_residual-in_err-ask-2.ensures.1 in
    let q6 = sym c.is_whole.ensures ∙ asked_yes _ _ c.in_ok-ask.ensures in
    p.1 ∙ ap Err (p.2 ∙ q.1) ∙ ap as_asked (no_7 a.e a.s.now q6 (ap (receives a.e) (sym c.octet-c.ensures) ∙ sym c.is_received.ensures ∙ q.0))

pub slice_bounds-m-end : goal.slice_bounds-m-end
slice_bounds-m-end c = let w = whole_fits c.args.s.now (sym c.is_whole.ensures ∙ asked_yes _ _ c.in_ok-ask.ensures) in
    let long : 4 + c.length_of.result ≤ length c.args.s.now = omega (arith, w.1, c.length_of.ensures.0) in
    sym (length-take-le (4 + c.length_of.result) c.args.s.now long)

pub pass_body-b-requires : goal.pass_body-b-requires
pass_body-b-requires c = let w = whole_fits c.args.s.now (sym c.is_whole.ensures ∙ asked_yes _ _ c.in_ok-ask.ensures) in
    let small : c.octet-c.result < 13 = code_small (received_code c.args.e c.octet-c.result (sym c.is_received.ensures ∙ asked_yes _ _ c.in_ok-ask-2.ensures)) in
    (small, rw (length-take-le (4 + c.length_of.result) c.args.s.now (omega (arith, w.1, c.length_of.ensures.0))) (omega arith))

pub returns-in_err-ask-3 : goal.returns-in_err-ask-3
returns-in_err-ask-3 c = let a = c.args in
    let q = asked_no _ _ _ c.in_err-ask-3.ensures in
    let p = err_from_is_err_and c.from_residual-in_err-ask-3.result c.from_residual-in_err-ask-3.ensures.1 in
    let q6 = sym c.is_whole.ensures ∙ asked_yes _ _ c.in_ok-ask.ensures in
    let q7 = sym c.is_received.ensures ∙ asked_yes _ _ c.in_ok-ask-2.ensures in
    p.1 ∙ ap Err (p.2 ∙ q.1) ∙ ap as_asked (bad_body a.e a.s.now q6 c.octet-c.ensures q7 c.length_of.ensures.0 c.pass_body-b.ensures q.0)

pub returns-in_err-ask-4 : goal.returns-in_err-ask-4
returns-in_err-ask-4 c = let a = c.args in
    let q = asked_no _ _ _ c.in_err-ask-4.ensures in
    let p = err_from_is_err_and c.from_residual-in_err-ask-4.result c.from_residual-in_err-ask-4.ensures.1 in
    let q6 = sym c.is_whole.ensures ∙ asked_yes _ _ c.in_ok-ask.ensures in
    let q7 = sym c.is_received.ensures ∙ asked_yes _ _ c.in_ok-ask-2.ensures in
    let body = asked_yes _ _ c.in_ok-ask-3.ensures in
    p.1
    ∙ ap Err (p.2 ∙ q.1)
    ∙ ap as_asked (bad_inside a.e a.s.now q6 c.octet-c.ensures q7 c.length_of.ensures.0 c.pass_body-b.ensures c.compounds_in-k.ensures body q.0)

pub returns-in_err-ask-5 : goal.returns-in_err-ask-5
returns-in_err-ask-5 c = let a = c.args in
    let q = asked_no _ _ _ c.in_err-ask-5.ensures in
    let p = err_from_is_err_and c.from_residual-in_err-ask-5.result c.from_residual-in_err-ask-5.ensures.1 in
    let q6 = sym c.is_whole.ensures ∙ asked_yes _ _ c.in_ok-ask.ensures in
    let q7 = sym c.is_received.ensures ∙ asked_yes _ _ c.in_ok-ask-2.ensures in
    let body = asked_yes _ _ c.in_ok-ask-3.ensures in
    let inside = asked_yes _ _ c.in_ok-ask-4.ensures in
    let missed : complete_in c.octet-c.result c.pass_body-b.result && c.compounds_in-k.result.complete ≡ false = ap (λ (x : Bool). x && c.compounds_in-k.result.complete) (sym c.is_complete.ensures) ∙ q.0 in
    p.1
    ∙ ap Err (p.2 ∙ q.1)
    ∙ ap as_asked (wrong a.e a.s.now q6 c.octet-c.ensures q7 c.length_of.ensures.0 c.pass_body-b.ensures c.compounds_in-k.ensures body inside missed)

pub returns : goal.returns
unfolding taken_from
returns c = let a = c.args in
    let q6 = sym c.is_whole.ensures ∙ asked_yes _ _ c.in_ok-ask.ensures in
    let q7 = sym c.is_received.ensures ∙ asked_yes _ _ c.in_ok-ask-2.ensures in
    let body = asked_yes _ _ c.in_ok-ask-3.ensures in
    let inside = asked_yes _ _ c.in_ok-ask-4.ensures in
    let met : complete_in c.octet-c.result c.pass_body-b.result && c.compounds_in-k.result.complete ≡ true = ap (λ (x : Bool). x && c.compounds_in-k.result.complete) (sym c.is_complete.ensures) ∙ asked_yes _ _ c.in_ok-ask-5.ensures in
    ap Ok c.taken.ensures
    ∙ ap as_asked (taken_is a.e a.s.now q6 c.octet-c.ensures q7 c.length_of.ensures.0 c.pass_body-b.ensures c.compounds_in-k.ensures body inside met)

-- `message_writer::write::write` meets its contract.
use Prim.Native.Nat.{◌<◌, ◌≤◌}
use mathlib.Core.Path.{sym, ap, ◌∙◌}
use native.Mathlib.Omega.{arith}
use lib.ListN.{length}
use borrow.Author.Tests.{leb-true, leb-false}
use Rattle.std.specs.Prelude.{Err}
use Rattle.std.proofs.lemmas.Result.{err_from_is_err_and}
use Rattle.message_rules.proofs.AskLaws.{asked_yes, asked_no}
use Rattle.message_digest.specs.Digest.{signed_of}
use Rattle.message_writer.proofs.WriteLaws.{fits_writable, whole_length, length_signed, refused_fields, refused_auth, refused_key, refused_slice, put}
use Rattle.message_writer.proofs.write.write.Goals as goal

pub returns-in_err-ask : goal.returns-in_err-ask
returns-in_err-ask c = let a = c.args in
    let q = asked_no _ _ _ c.in_err-ask.ensures in
    let p = err_from_is_err_and c.from_residual.result c.from_residual.ensures.1 in
    refused_fields a.f a.auth.now a.key.now a.out.now (p.1 ∙ ap Err (p.2 ∙ q.1)) (sym c.fields_fit.ensures ∙ q.0)

pub returns-in_err-ask-2 : goal.returns-in_err-ask-2
returns-in_err-ask-2 c = let a = c.args in
    let q = asked_no _ _ _ c.in_err-ask-2.ensures in
    let p = err_from_is_err_and c.from_residual-in_err-ask-2.result c.from_residual-in_err-ask-2.ensures.1 in
    let one = sym c.fields_fit.ensures ∙ asked_yes _ _ c.in_ok-ask.ensures in
    refused_auth a.f a.auth.now a.key.now a.out.now (p.1 ∙ ap Err (p.2 ∙ q.1)) one (sym c.auth_key_fits.ensures ∙ q.0)

pub returns-in_err-ask-3 : goal.returns-in_err-ask-3
returns-in_err-ask-3 c = let a = c.args in
    let q = asked_no _ _ _ c.in_err-ask-3.ensures in
    let p = err_from_is_err_and c.from_residual-in_err-ask-3.result c.from_residual-in_err-ask-3.ensures.1 in
    let one = sym c.fields_fit.ensures ∙ asked_yes _ _ c.in_ok-ask.ensures in
    let auth = sym c.auth_key_fits.ensures ∙ asked_yes _ _ c.in_ok-ask-2.ensures in
    refused_key a.f a.auth.now a.key.now a.out.now (p.1 ∙ ap Err (p.2 ∙ q.1)) one auth (sym c.message_key_fits.ensures ∙ q.0)

pub body_len-whole-requires : goal.body_len-whole-requires
body_len-whole-requires c =
    fits_writable _ _ (sym c.fields_fit.ensures ∙ asked_yes _ _ c.in_ok-ask.ensures) (sym c.auth_key_fits.ensures ∙ asked_yes _ _ c.in_ok-ask-2.ensures)

pub returns-in_err-ask-4 : goal.returns-in_err-ask-4
returns-in_err-ask-4 c = let a = c.args in
    let q = asked_no _ _ _ c.in_err-ask-4.ensures in
    let p = err_from_is_err_and c.from_residual-in_err-ask-4.result c.from_residual-in_err-ask-4.ensures.1 in
    let one = sym c.fields_fit.ensures ∙ asked_yes _ _ c.in_ok-ask.ensures in
    let auth = sym c.auth_key_fits.ensures ∙ asked_yes _ _ c.in_ok-ask-2.ensures in
    let key = sym c.message_key_fits.ensures ∙ asked_yes _ _ c.in_ok-ask-3.ensures in
    let h : length a.out.now < length (signed_of a.f a.auth.now a.key.now) =
    omega (arith, leb-false _ _ q.0, length_signed a.f a.auth.now a.key.now c.body_len-whole.result c.body_len-whole.ensures.body_length) in
    refused_slice a.f a.auth.now a.key.now a.out.now one auth key (p.1 ∙ ap Err (p.2 ∙ q.1)) h

pub put_message-requires : goal.put_message-requires
put_message-requires c = let a = c.args in
    let n = whole_length a.f a.auth.now a.key.now c.body_len-whole.result c.body_len-whole.ensures.body_length in
    let room = leb-true _ _ (asked_yes _ _ c.in_ok-ask-4.ensures) in
    (fits_writable _ _ (sym c.fields_fit.ensures ∙ asked_yes _ _ c.in_ok-ask.ensures) (sym c.auth_key_fits.ensures ∙ asked_yes _ _ c.in_ok-ask-2.ensures), omega (arith, n, room))

pub returns : goal.returns
returns c = let a = c.args in
    let one = sym c.fields_fit.ensures ∙ asked_yes _ _ c.in_ok-ask.ensures in
    let auth = sym c.auth_key_fits.ensures ∙ asked_yes _ _ c.in_ok-ask-2.ensures in
    let key = sym c.message_key_fits.ensures ∙ asked_yes _ _ c.in_ok-ask-3.ensures in
    let s = length_signed a.f a.auth.now a.key.now c.body_len-whole.result c.body_len-whole.ensures.body_length in
    let fits = leb-true _ _ (asked_yes _ _ c.in_ok-ask-4.ensures) in
    let room : length (signed_of a.f a.auth.now a.key.now) ≤ length a.out.now = omega (arith, fits, s) in
    put a.f a.auth.now a.key.now a.out.now one auth key room c.put_message.ensures.0 c.put_message.ensures.1

-- `read_up` meets its contract.
use Rattle.std.proofs.Common.{rules, ◌≡◌, refl, sym, ◌∙◌, true}
use Rattle.std.specs.Prelude.{Some}
use lib.Dec.{eqb}
use borrow.Author.Tests.{eq-eqb}
use Rattle.replay_fields.specs.Places.{num_of, text_of, octets_for}
use Rattle.replay_read.proofs.CallLaws.{up_reads}
use Rattle.replay_read.proofs.call.read_up.Goals as goal

pub returns-then-c-ne-UP_FIELDS : goal.returns-then-c-ne-UP_FIELDS
returns-then-c-ne-UP_FIELDS c = up_reads c.args.line.now c.args.c c.requires _ (search rules)

pub returns-in_err-address : goal.returns-in_err-address
returns-in_err-address c = up_reads c.args.line.now c.args.c c.requires _ (search rules)

pub returns-in_err-read : goal.returns-in_err-read
returns-in_err-read c = up_reads c.args.line.now c.args.c c.requires _ (search rules)

pub returns-in_err-write : goal.returns-in_err-write
returns-in_err-write c = up_reads c.args.line.now c.args.c c.requires _ (search rules)

pub returns-in_err-auth : goal.returns-in_err-auth
returns-in_err-auth c = up_reads c.args.line.now c.args.c c.requires _ (search rules)

pub returns-in_err-octets : goal.returns-in_err-octets
returns-in_err-octets c = up_reads c.args.line.now c.args.c c.requires _ (search rules)

pub returns : goal.returns
returns c = let l = c.args.line.now in
    let cut = c.args.c in
    let six : eqb cut.count 6 ≡ true = eq-eqb _ _ c.if-c-ne-UP_FIELDS.false in
    let address : num_of (text_of l cut.first) ≡ Some c.in_ok-address.address = sym c.number_of.ensures ∙ c.in_ok-address.was in
    let read : octets_for l cut.second ≡ Some c.in_ok-read.read = sym c.octets_of.ensures ∙ c.in_ok-read.was in
    let write : octets_for l cut.third ≡ Some c.in_ok-write.write = sym c.octets_of-2.ensures ∙ c.in_ok-write.was in
    let auth : octets_for l cut.fourth ≡ Some c.in_ok-auth.auth = sym c.octets_of-3.ensures ∙ c.in_ok-auth.was in
    let octets : octets_for l cut.fifth ≡ Some c.in_ok-octets.octets = sym c.octets_of-4.ensures ∙ c.in_ok-octets.was in
    up_reads l cut c.requires _ (rw (c.plain_call-call.ensures, six, address, read, write, auth, octets) refl)

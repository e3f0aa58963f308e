-- `read_settings` meets its contract.
use Rattle.std.proofs.Common.{rules, ◌≡◌, refl, sym, ◌∙◌, length, true}
use Rattle.std.specs.Prelude.{Some}
use lib.Dec.{leb, eqb}
use borrow.Author.Tests.{le-leb, eq-eqb}
use Rattle.replay_fields.specs.Fields.{fields_of}
use Rattle.replay_read.specs.Setup.{three_at_of}
use Rattle.replay_read.proofs.SetupLaws.{settings_are}
use Rattle.replay_read.proofs.setup.read_settings.Goals as goal

pub returns-then-line-gt-LINE_MAX : goal.returns-then-line-gt-LINE_MAX
returns-then-line-gt-LINE_MAX c = settings_are c.args.line.now _ (search rules)

pub returns-in_err-a : goal.returns-in_err-a
returns-in_err-a c = settings_are c.args.line.now _ (search rules)

pub returns-in_err-b : goal.returns-in_err-b
returns-in_err-b c = settings_are c.args.line.now _ (search rules)

pub returns-in_err-c : goal.returns-in_err-c
returns-in_err-c c = settings_are c.args.line.now _ (search rules)

pub returns : goal.returns
returns c = let l = c.args.line.now in
    let short : leb (length l) 16384 ≡ true = le-leb _ _ c.if-line-gt-LINE_MAX.false in
    let nine : eqb (length (fields_of l)) 9 ≡ true = eq-eqb _ _ (sym c.count_fields.ensures ∙ c.if-count_fields-ne-SETTINGS_FIELDS.false) in
    let one : three_at_of l 0 ≡ Some c.in_ok-a.a = sym c.three_at.ensures ∙ c.in_ok-a.was in
    let two : three_at_of l c.in_ok-a.a.next ≡ Some c.in_ok-b.b = sym c.three_at-2.ensures ∙ c.in_ok-b.was in
    let three : three_at_of l c.in_ok-b.b.next ≡ Some c.in_ok-c.c = sym c.three_at-3.ensures ∙ c.in_ok-c.was in
    settings_are l _ (rw (short, nine, one, two, three) refl)

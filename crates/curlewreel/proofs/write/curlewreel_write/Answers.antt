-- `curlewreel::write::curlewreel_write` meets its contract.
use lib.ListN.{length}
use mathlib.Core.Path.{sym, ◌∙◌}
use borrow.Author.Tests.{le-leb, lt-leb}
use Rattle.curlewreel.proofs.WriteLaws.{fields_refused, octets_refused, message_counted, message_refused, of_fields}
use Rattle.curlewreel.proofs.write.curlewreel_write.Goals as goal

pub returns-then-not-fields_fit : goal.returns-then-not-fields_fit
returns-then-not-fields_fit c = let x = c.args in
    of_fields _ _ _ _ _ _ c.fields_from-f.ensures (fields_refused c.fields_from-f.result (length x.fields.now) x.auth_key.now x.write_key.now x.out.now (sym c.fields_fit.ensures ∙ c.if-not-fields_fit.true))

pub returns-then-fields-lt-FIELDS_WRITTEN : goal.returns-then-fields-lt-FIELDS_WRITTEN
returns-then-fields-lt-FIELDS_WRITTEN c = let x = c.args in
    of_fields _ _ _ _ _ _ c.fields_from-f.ensures (octets_refused c.fields_from-f.result (length x.fields.now) x.auth_key.now x.write_key.now x.out.now (sym c.fields_fit.ensures ∙ c.if-not-fields_fit.false) (lt-leb _ _ c.if-fields-lt-FIELDS_WRITTEN.true))

pub returns-in-Ok : goal.returns-in-Ok
returns-in-Ok c = let x = c.args in
    of_fields _ _ _ _ _ _ c.fields_from-f.ensures (message_counted c.fields_from-f.result (length x.fields.now) x.auth_key.now x.write_key.now x.out.now (le-leb _ _ c.if-fields-lt-FIELDS_WRITTEN.false) _ c.in-Ok.ensures.0 _ c.in-Ok.ensures.1)

pub returns-in-Err : goal.returns-in-Err
returns-in-Err c = let x = c.args in
    of_fields _ _ _ _ _ _ c.fields_from-f.ensures (message_refused c.fields_from-f.result (length x.fields.now) x.auth_key.now x.write_key.now x.out.now (le-leb _ _ c.if-fields-lt-FIELDS_WRITTEN.false) _ c.in-Err.ensures.0 _ c.from.ensures _ c.in-Err.ensures.1)

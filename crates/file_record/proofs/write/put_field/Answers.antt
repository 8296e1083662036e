-- `put_field` lays a field of so many bytes where it stands.
-- Each turn lays one byte, and what is left to be laid makes the run of the field's bytes whole.
use borrow.Author.Tests.{not-true, not-false}
use Rattle.file_record.proofs.Laying.{laid_start, laid_step, field_off, field_laid, field_room}
use Rattle.file_record.proofs.write.put_field.Goals as goal

pub returns-then-not-stands : goal.returns-then-not-stands
returns-then-not-stands c =
    let a = c.args in let told = field_off a.value a.out.now a.at a.width (not-true a.stands (rw c.if-not-stands.true)) in
    record { value = told.0; out_after = told.1 }

pub loop-place-init : goal.loop-place-init
loop-place-init c =
    let a = c.args in
    laid_start a.out.now a.at a.width a.value (field_room a.width a.at a.out.now (not-false a.stands (rw c.if-not-stands.false)) c.requires)

pub loop-place-preserved : goal.loop-place-preserved
loop-place-preserved c = search laid_step

pub returns : goal.returns
returns c =
    let told = field_laid (not-false c.args.stands (rw c.if-not-stands.false)) c.loop-place-test.false c.loop-place.invariant in
    record { value = told.0; out_after = told.1 }

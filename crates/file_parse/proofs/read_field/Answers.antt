-- `read_field` reads a field of so many bytes where it stands.
-- Each way out is one branch of the definition.
use borrow.Author.Tests.{not-true, not-false}
use native.Mathlib.Omega.{arith}
use Rattle.file_parse.proofs.Taking.{field_off, field_short, field_same, field_value}
use Rattle.std.proofs.Common.{ap, not}
use Rattle.file_parse.proofs.read_field.Goals as goal

pub returns-then-not-stands : goal.returns-then-not-stands
returns-then-not-stands c = search (field_off, not-true)

pub returns-then-bytes-width : goal.returns-then-bytes-width
returns-then-bytes-width c = search (field_short, not-false)

pub returns-then-value-other : goal.returns-then-value-other
returns-then-value-other c =
    let a = c.args in
    field_same a.width a.other a.bytes.now (not-false a.stands (ap not c.if-not-stands.false)) _ c.read_number-value.ensures (omega (arith, c.if-value-other.true))

pub returns : goal.returns
returns c = search (field_value, not-false)

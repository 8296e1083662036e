-- `read_fields` reads the three fields behind a bit map byte, each from the bytes after the one before.
-- Each way out is one branch of the definition.
use Rattle.file_parse.proofs.Taking.{part_from, fields_no_item, fields_no_zero, fields_no_one, fields_taken}
use Rattle.file_parse.proofs.read_fields.Goals as goal

pub returns-in_err-item : goal.returns-in_err-item
returns-in_err-item c = let a = c.args in rw c.from_residual.ensures (fields_no_item a.map a.last a.bytes.now c.in_err-item.ensures)

pub returns-in_err-zero : goal.returns-in_err-zero
returns-in_err-zero c =
    let a = c.args in
    rw c.from_residual-in_err-zero.ensures (fields_no_zero a.map a.last a.bytes.now c.in_ok-item.ensures (rw (part_from a.bytes.now _) at c.in_err-zero.ensures))

pub returns-in_err-one : goal.returns-in_err-one
returns-in_err-one c =
    let a = c.args in
    rw c.from_residual-in_err-one.ensures
    (fields_no_one a.map a.last a.bytes.now c.in_ok-item.ensures (rw (part_from a.bytes.now _) at c.in_ok-zero.ensures) (rw (part_from a.bytes.now _) at c.in_err-one.ensures))

pub returns : goal.returns
returns c =
    let a = c.args in
    fields_taken a.map a.last a.bytes.now c.in_ok-item.ensures (rw (part_from a.bytes.now _) at c.in_ok-zero.ensures) (rw (part_from a.bytes.now _) at c.in_ok-one.ensures)

-- `read_record` reads the bit map byte and the fields behind it.
-- Each way out is one branch of the definition.
use native.Mathlib.Omega.{arith}
use Rattle.file_parse.proofs.Taking.{record_end, record_map, record_no, record_taken}
use Rattle.file_parse.proofs.read_record.Goals as goal

pub returns-in_err-map : goal.returns-in_err-map
returns-in_err-map c = rw c.from_residual.ensures (record_end c.args.last c.args.rest.now c.in_err-map.ensures.cases)

pub returns-then-map-gt-ALL_FIELDS : goal.returns-then-map-gt-ALL_FIELDS
returns-then-map-gt-ALL_FIELDS c = record_map c.args.last c.in_ok-map.ensures.cases.0 (omega arith)

pub returns-in_err-part : goal.returns-in_err-part
returns-in_err-part c = rw c.from_residual-in_err-part.ensures (record_no c.args.last c.in_ok-map.ensures.cases.0 c.in_err-part.ensures)

pub returns : goal.returns
returns c = record_taken c.args.last c.in_ok-map.ensures.cases.0 (omega arith) c.in_ok-part.ensures

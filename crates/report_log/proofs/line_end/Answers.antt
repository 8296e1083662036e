-- The tally behind a line: the store was full and nothing else changes, or the handle of the line's family is the new
-- one. The laws of `Logs` have one case for each way out.
use Rattle.report_log.proofs.Logs.{end_full, end_passed, end_returned}
use Rattle.report_log.proofs.line_end.Goals as goal

pub returns-in_default : goal.returns-in_default
returns-in_default c = end_full c.new.result c.args.side c.in_default.is c.new.ensures

pub returns-in-Passed : goal.returns-in-Passed
returns-in-Passed c = end_passed c.new.result c.in-Passed.is c.in-Ok.is c.line_number-lines.ensures c.new.ensures

pub returns-in-Returned : goal.returns-in-Returned
returns-in-Returned c = end_returned c.new.result c.in-Returned.is c.in-Ok.is c.line_number-lines.ensures c.new.ensures

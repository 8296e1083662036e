-- How a log ends with its last byte: as it ended before, or by whether a line is begun.
-- The stage of the reading is the grammar's progress.
use Rattle.report_close.proofs.Closings.{end_told, end_blank, end_begun}
use Rattle.report_close.proofs.ending_of.Goals as goal

pub returns-in_default : goal.returns-in_default
returns-in_default c = end_told c.in_default.not-Going

pub returns-in-Blank : goal.returns-in-Blank
returns-in-Blank c = end_blank c.in-Going.is c.in-Blank.is

pub returns-in_default-stage : goal.returns-in_default-stage
returns-in_default-stage c = end_begun c.in-Going.is c.in_default-stage.not-Blank

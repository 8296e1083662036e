-- One byte more: a log that ended stays; else a whole line is added, a malformed one ends the log, any other is read
-- on. The stage of the reading is the grammar's progress.
use Rattle.report_log.proofs.Logs.{line_added, next_whole, next_malformed, next_going, byte_going, byte_ended}
use Rattle.report_log.proofs.take_byte.Goals as goal

pub returns-in_default : goal.returns-in_default
returns-in_default c = byte_ended c.in_default.not-Going

pub returns-in-Whole : goal.returns-in-Whole
returns-in-Whole c =
    byte_going c.in-Going.is
    (next_whole _ c.take-reading.result c.take-reading.ensures c.in-Whole.is (line_added _ c.side_handle-family.ensures c.add-placed.ensures c.line_end.ensures))

pub returns-in-Malformed : goal.returns-in-Malformed
returns-in-Malformed c =
    byte_going c.in-Going.is (next_malformed _ c.take-reading.result c.take-reading.ensures c.in-Malformed.is)

pub returns-in_default-stage : goal.returns-in_default-stage
returns-in_default-stage c =
    byte_going c.in-Going.is (next_going _ c.take-reading.result c.take-reading.ensures c.in_default-stage.not-Whole c.in_default-stage.not-Malformed c.in-Going.is)

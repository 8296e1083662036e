-- A log opened on fresh words: no family has a member, and no byte is taken.
-- What Fresh leaves is a sound store whose book is the first one.
use Rattle.report_tally.proofs.Openings.{opened}
use Rattle.report_tally.proofs.open_log.Goals as goal

pub returns : goal.returns
returns c = search opened

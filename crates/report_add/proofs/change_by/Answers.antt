-- One turn of making a combination: one Change where it holds the item and nothing was refused before, else nothing.
-- The laws of `Makings` have one case for each way out.
use Rattle.report_add.proofs.Makings.{turn_changed}
use Rattle.report_add.proofs.change_by.Goals as goal

pub returns-in-Ok : goal.returns-in-Ok
returns-in-Ok c = search turn_changed

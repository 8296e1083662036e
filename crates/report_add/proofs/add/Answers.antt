-- The combination is made, and one Union puts it into the family; where making it was refused, nothing more is done.
-- The family's handle still means the family after the combination is made.
use Rattle.report_add.proofs.Makings.{add_united}
use Rattle.report_add.proofs.add.Goals as goal

pub returns-in-Ok : goal.returns-in-Ok
returns-in-Ok c = search add_united

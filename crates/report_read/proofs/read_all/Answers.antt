-- Pieces are read and taken until the input or the log ends.
-- Before each turn the reads so far left more to read.
use Rattle.std.proofs.Common.{rules}
use Rattle.report_read.proofs.Feedings.{onward_start, one_more, onward_again}
use Rattle.report_read.proofs.read_all.Goals as goal

pub loop-init : goal.loop-init
loop-init g c = onward_start _ _ _ _

pub returns-in_default : goal.returns-in_default
returns-in_default g c = one_more c.loop.invariant c.read_piece-fed.ensures (search rules)

pub loop-preserved : goal.loop-preserved
loop-preserved g c = onward_again c.loop.invariant c.read_piece-fed.ensures (search rules)

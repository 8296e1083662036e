-- One read, taken.
-- The answer is the reader's own, and the buffer as its read left it.
use Rattle.std.proofs.Common.{rules}
use Rattle.report_read.proofs.Feedings.{one_read}
use Rattle.report_read.proofs.read_piece.Goals as goal

pub returns : goal.returns
returns g c = one_read c.read_front-got.ensures (search rules) c.take_read.ensures

-- `both_at` has the numbers of a handle.
-- Its words, and its mark for each of them.
use Rattle.query_sums.proofs.Putting.{both_kept}
use Rattle.query_sums.proofs.numbers.both_at.Goals as goal

pub returns : goal.returns
returns c = search both_kept

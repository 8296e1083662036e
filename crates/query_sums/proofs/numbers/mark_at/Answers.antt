-- `mark_at` reads the mark of a handle.
-- The definition's two cases, and a handle past the nodes, of which nothing is said.
use Rattle.query_sums.proofs.Putting.{mark_leaf, mark_node}
use Rattle.query_sums.proofs.numbers.mark_at.Goals as goal

pub returns-then-p-lt2 : goal.returns-then-p-lt2
returns-then-p-lt2 c = search mark_leaf

pub returns : goal.returns
returns c = search mark_node

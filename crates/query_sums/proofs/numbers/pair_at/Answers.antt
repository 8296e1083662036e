-- `pair_at` reads the words of a handle.
-- The definitions' two cases, and a handle past the nodes, of which nothing is said.
use Rattle.query_sums.proofs.Putting.{paired_leaf, paired_outside, paired_node}
use Rattle.query_sums.proofs.numbers.pair_at.Goals as goal

pub returns-then-p-lt2 : goal.returns-then-p-lt2
returns-then-p-lt2 c = search paired_leaf

pub returns-then-count-p : goal.returns-then-count-p
returns-then-count-p c = search paired_outside

pub returns : goal.returns
returns c = search paired_node

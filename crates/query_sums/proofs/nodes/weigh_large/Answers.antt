-- `weigh_large` puts the numbers of a node, kept.
-- The numbers of its children are read, added and multiplied as kept numbers.
use Rattle.query_sums.proofs.Putting.{put_kept}
use Rattle.query_sums.proofs.nodes.weigh_large.Goals as goal

pub returns : goal.returns
returns c = search put_kept

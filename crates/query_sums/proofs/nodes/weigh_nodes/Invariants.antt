-- `weigh_nodes` puts the numbers of the nodes in rising number.
-- Those below j are put.
use Rattle.query_sums.specs.Inner.{Filled}
use Rattle.query_sums.proofs.nodes.weigh_nodes.Given as goal

abbrev pub invariant-loop-j : goal.invariant-loop-j
invariant-loop-j l = Filled l.nodes l.weights l.count l.j l.initial.words l.words

-- `weigh_nodes` puts the numbers of the nodes in rising number.
-- Each step puts those of one node more.
use native.Mathlib.Omega.{arith}
use Rattle.query_sums.proofs.Filling.{filled_step}
use Rattle.query_sums.proofs.nodes.weigh_nodes.Goals as goal

pub weigh_node-requires-clause-words : goal.weigh_node-requires-clause-words
weigh_node-requires-clause-words c = record { long = omega (arith, c.requires.words.long, c.loop-j.invariant.long); small = c.requires.words.small }

pub loop-j-preserved : goal.loop-j-preserved
loop-j-preserved c =
    let a = c.args in
    let l = c.loop-j in
    filled_step a.nodes.now a.weights.now a.count l.j a.words.now l.words _ (omega arith) _ c.weight_at-weight.ensures.is c.weigh_node.ensures l.invariant

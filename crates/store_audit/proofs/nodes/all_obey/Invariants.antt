-- `all_obey` decides for all nodes.
-- After k turns the first k obey and have their own slots; a node that does not ends it.
use Rattle.store_audit.specs.Inner.{NodesTo}
use Rattle.store_audit.proofs.nodes.all_obey.Given as goal

abbrev pub invariant-loop-k : goal.invariant-loop-k
invariant-loop-k l = NodesTo l.store.limit l.nodes l.lookup l.k

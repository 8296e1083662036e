-- `fill_sizes` fills the words in rising number.
-- The words below j are filled.
use Rattle.query_sizes.specs.Inner.{Filled}
use Rattle.query_sizes.proofs.fill_sizes.Given as goal

abbrev pub invariant-loop-j : goal.invariant-loop-j
invariant-loop-j l = Filled l.nodes l.count l.j l.initial.sizes l.sizes

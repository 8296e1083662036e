-- `find` goes along the chain of the handle; what is left of the chain leads to the handle's place.
-- The measure is the link, which falls along a chain.
use Rattle.query_parts.specs.Inner.{link_to}
use Rattle.query_parts.proofs.Chains.{Sought}
use Rattle.query_parts.proofs.entries.Parts.find.Given as goal

abbrev pub invariant-loop-chain : goal.invariant-loop-chain
invariant-loop-chain l = Sought l.self l.handle (link_to l.chain)

abbrev pub decreases-loop-chain : goal.decreases-loop-chain
decreases-loop-chain l = link_to l.chain

-- `find` goes along the chain of the handle; what is left of the chain leads to the handle's place.
-- The measure is the link, which falls along a chain.
use mathlib.Core.Path.{ap}
use native.Mathlib.Omega.{arith}
use Rattle.query_parts.specs.Inner.{link_to}
use Rattle.query_parts.proofs.Chains.{sought_head, sought_none, sought_here, sought_falls, sought_on}
use Rattle.query_parts.proofs.entries.Parts.find.Goals as goal

pub loop-chain-init : goal.loop-chain-init
loop-chain-init c = sought_head _ _ _ c.requires c.head_of-chain.ensures

pub returns-then-handle_of-handle : goal.returns-then-handle_of-handle
returns-then-handle_of-handle c =
    sought_here _ _ _ c.requires c.loop-chain.invariant _ _ (ap link_to c.in-Some.is) c.handle_of.ensures c.if-handle_of-handle.true

pub loop-chain-smaller : goal.loop-chain-smaller
loop-chain-smaller c =
    omega (arith, c.next_of-chain.ensures, sought_falls _ _ _ c.requires c.loop-chain.invariant _ _ (ap link_to c.in-Some.is) c.handle_of.ensures)

pub loop-chain-preserved : goal.loop-chain-preserved
loop-chain-preserved c =
    sought_on _ _ _ c.requires c.loop-chain.invariant _ _ (ap link_to c.in-Some.is) c.handle_of.ensures c.if-handle_of-handle.false _ c.next_of-chain.ensures

pub returns : goal.returns
returns c = sought_none _ _ _ c.requires c.loop-chain.invariant (ap link_to c.in_default.is)

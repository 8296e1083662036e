-- `remember` writes the four words of a group, where there is one of that number.
-- The test before them is that the group lies within the cache.
use native.Mathlib.Omega.{arith}
use lib.ListN.{length-set}
use Rattle.op_cache.proofs.Remembering.{noted_remembered, nothing_remembered}
use Rattle.op_cache.proofs.remember.Goals as goal

pub returns-then-cache-group : goal.returns-then-cache-group
returns-then-cache-group c = nothing_remembered _ _ _

pub bounds-cache-at-2 : goal.bounds-cache-at-2
bounds-cache-at-2 c = simp length-set (omega (arith, c.if-cache-group.false))

pub bounds-cache-at-3 : goal.bounds-cache-at-3
bounds-cache-at-3 c = simp length-set (omega (arith, c.if-cache-group.false))

pub bounds-cache-at-4 : goal.bounds-cache-at-4
bounds-cache-at-4 c = simp length-set (omega (arith, c.if-cache-group.false))

pub returns : goal.returns
returns c = noted_remembered _ c.args.group c.args.call _ c.if-cache-group.false

-- `clear_newest` empties the slots of the newest nodes.
-- What is left to empty, from the lookup as it is, gives the whole.
use Rattle.std.proofs.Common.{sym, ◌∙◌, arith}
use Rattle.table.proofs.OwnSlots.{cleared_some, cleared_skip, cleared_none}
use Rattle.table.proofs.own_slots.clear_newest.Goals as goal

pub loop-k-preserved-in-Some : goal.loop-k-preserved-in-Some
loop-k-preserved-in-Some c = cleared_some _ _ _ _ _ (omega arith) c.in-Some.ensures ∙ c.loop-k.invariant

pub loop-k-preserved : goal.loop-k-preserved
loop-k-preserved c = cleared_skip _ _ _ _ (omega arith) c.in_default.ensures ∙ c.loop-k.invariant

pub returns : goal.returns
returns c = sym (cleared_none _ _ _ _ c.loop-k-test.false) ∙ c.loop-k.invariant

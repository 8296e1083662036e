-- `clear_newest` empties the slots of the newest nodes.
-- What is left to empty, from the lookup as it is, gives the whole.
use Rattle.std.proofs.Common.{◌≡◌, ◌-◌}
use Rattle.table.specs.Own.{cleared}
use Rattle.table.proofs.own_slots.clear_newest.Given as goal

abbrev pub invariant-loop-k : goal.invariant-loop-k
invariant-loop-k l = cleared l.nodes l.lookup l.keep (l.k - l.keep) ≡ cleared l.nodes l.initial.lookup l.keep (l.count - l.keep)

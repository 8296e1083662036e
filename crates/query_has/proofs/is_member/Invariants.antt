-- `is_member` goes one way down; on that way the rest is a member exactly when the combination is one of p.
-- Each step leads to a smaller top, and 512 is the largest.
use Rattle.std.proofs.Common.{◌-◌}
use Rattle.family.specs.Combination.{items_of}
use Rattle.query_has.proofs.Descending.{Along}
use Rattle.query_has.proofs.is_member.Given as goal

abbrev pub invariant-loop : goal.invariant-loop
invariant-loop l = Along l.nodes l.count l.p (items_of l.initial.rest.words) l.at (items_of l.rest.words) (512 - l.counter)

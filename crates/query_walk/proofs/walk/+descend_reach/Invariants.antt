-- `descend` and `reach` enter the parts of p: the bound falls from `descend` to each `reach`, and `reach` comes just above
-- `descend` of its bound.
-- Each way out is one law of walking.
use Rattle.std.proofs.Common.{◌+◌, ◌*◌}
use Rattle.query_walk.proofs.walk.+descend_reach.Given as goal

abbrev pub decreases-descend : goal.decreases-descend
decreases-descend l = 2 * l.bound

abbrev pub decreases-reach : goal.decreases-reach
decreases-reach l = 2 * l.bound + 1

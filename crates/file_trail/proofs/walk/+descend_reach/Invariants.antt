-- `descend` and `reach` meet the parts of p: the top falls from `descend` to each `reach`, and `reach` comes just above
-- `descend` of its top.
-- Each way out is one law of walking.
use Rattle.std.proofs.Common.{◌+◌, ◌*◌}
use Rattle.file_trail.proofs.walk.+descend_reach.Given as goal

abbrev pub decreases-descend : goal.decreases-descend
decreases-descend l = 2 * l.top

abbrev pub decreases-reach : goal.decreases-reach
decreases-reach l = 2 * l.top + 1

-- `restrict` and `expand` run the operation on a family and an item: the level falls from `expand` to each
-- `restrict`, and `restrict` comes just above `expand` of its level.
-- Every way out is one at or above the top, a recalled result, or one step over the two results below.
use Rattle.std.proofs.Common.{◌+◌, ◌*◌}
use Rattle.op_items.proofs.recursion.+expand_restrict.Given as goal

abbrev pub decreases-expand : goal.decreases-expand
decreases-expand l = 2 * l.level

abbrev pub decreases-restrict : goal.decreases-restrict
decreases-restrict l = 2 * l.level + 1

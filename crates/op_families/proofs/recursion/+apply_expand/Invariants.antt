-- `apply` and `expand` run the operation on two families: the bound falls from `expand` to each `apply`, and `apply`
-- comes just above `expand` of its bound.
-- Every way out is a terminal case, a recalled result, or one step over the two results below.
use Rattle.std.proofs.Common.{◌+◌, ◌*◌}
use Rattle.op_families.proofs.recursion.+apply_expand.Given as goal

abbrev pub decreases-apply : goal.decreases-apply
decreases-apply l = 2 * l.bound + 1

abbrev pub decreases-expand : goal.decreases-expand
decreases-expand l = 2 * l.bound

-- `part` and `expand` run Even and Odd: the level falls from `expand` to the parts of both sides, and `part` comes just
-- above `expand` of its level.
-- Every way out is a top of 0, a recalled result, or one step over the two results below.
use Rattle.std.proofs.Common.{◌+◌, ◌*◌}
use Rattle.op_parity.proofs.recursion.+expand_part.Given as goal

abbrev pub decreases-expand : goal.decreases-expand
decreases-expand l = 2 * l.level

abbrev pub decreases-part : goal.decreases-part
decreases-part l = 2 * l.level + 1

-- `group_of` gives a group that there is: a remainder by the number of groups.
-- The sum before it does not wrap.
use native.Mathlib.Nat.{mod-lt}
use Rattle.op_cache.proofs.group_of.Goals as goal

pub returns : goal.returns
returns c some = mod-lt _ some

-- `step` goes to the one child where the item is to be met, else to the zero child.
-- `take_out` says which, and what the rest is after it; where the item is absent the rest stays.
use Rattle.std.proofs.Common.{refl}
use Rattle.query_has.proofs.Descending.{step_passed}
use Rattle.query_has.proofs.step.Goals as goal

pub returns-else-take_out : goal.returns-else-take_out
returns-else-take_out c = step_passed _ _ _ _ _ c.take_out.ensures c.if-take_out.false refl

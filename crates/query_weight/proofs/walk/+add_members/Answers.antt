-- `add_members` adds the weight of each member below a handle; the bound falls from a call to the two within it.
-- Each way out is one law of walking.
use native.Mathlib.Omega.{arith}
use Rattle.query_weight.proofs.Walking.{walked_empty, walked_base, walked_outside, walked_high, walked_first, walked_node}
use Rattle.query_weight.proofs.walk.+add_members.Goals as goal

pub returns-then-p-eq0 : goal.returns-then-p-eq0
returns-then-p-eq0 t c = search walked_empty

pub returns-then-p-eq1 : goal.returns-then-p-eq1
returns-then-p-eq1 t c = walked_base _ _ _ _ _ _ _ c.if-p-eq1.true c.grow.ensures

pub returns-then-count-p : goal.returns-then-count-p
returns-then-count-p t c = search walked_outside

pub returns-then-bound-item : goal.returns-then-bound-item
returns-then-bound-item t c =
    walked_high _ _ _ _ _ _ _ (omega (arith, c.if-p-eq0.false, c.if-p-eq1.false)) c.if-bound-item.true

pub returns-in_err-add_members : goal.returns-in_err-add_members
returns-in_err-add_members t c =
    rw c.from_residual.ensures
    (walked_first _ _ _ _ _ _ _ (omega (arith, c.if-p-eq0.false, c.if-p-eq1.false)) c.add_members.ensures c.in_err-add_members.was)

pub returns : goal.returns
returns t c =
    walked_node _ _ _ _ _ _ _ (omega (arith, c.if-p-eq0.false, c.if-p-eq1.false)) _ c.weight_at.ensures.is c.add_members.ensures
    c.in_ok-add_members.was c.add_members-2.ensures

-- `descend` and `reach` enter the parts of p: the bound falls from `descend` to each `reach`, and `reach` comes just above
-- `descend` of its bound.
-- Each way out is one law of walking.
use mathlib.Core.Path.{refl}
use native.Mathlib.Omega.{arith}
use Rattle.query_walk.proofs.Walking.{walked_found, walked_on, descended_first, descended_second, with_other, descended_done}
use Rattle.query_walk.proofs.walk.+descend_reach.Goals as goal

pub descend-returns-in_err-zero : goal.descend-returns-in_err-zero
descend-returns-in_err-zero t c =
    rw c.from_residual.ensures (descended_first _ _ _ _ _ c.requires.asks.table c.requires.part c.in_err-zero.ensures)

pub descend-returns-in_err-one : goal.descend-returns-in_err-one
descend-returns-in_err-one t c =
    rw c.from_residual-in_err-one.ensures (descended_second _ _ _ _ _ c.requires.asks.table c.requires.part c.in_ok-zero.ensures c.in_err-one.ensures refl)

pub descend-returns : goal.descend-returns
descend-returns t c =
    let q = c.requires in
    descended_done _ _ _ _ _ q.asks.table q.part c.in_ok-zero.ensures c.in_ok-one.ensures refl c.size_of-without.ensures
    (with_other c.with_size-with.ensures) c.sum_of.ensures c.append.ensures

pub reach-overflow_add-result : goal.reach-overflow_add-result
reach-overflow_add-result t c =
    let T = c.requires.table in
    omega (arith, (c.in-Some.ensures.some _ refl).0, T.few, T.small)

pub reach-returns-in-Some : goal.reach-returns-in-Some
reach-returns-in-Some t c = walked_found _ _ _ _ _ c.requires.table c.if-p-lt2.false c.in-Some.ensures

pub reach-returns : goal.reach-returns
reach-returns t c = walked_on _ _ _ _ _ c.requires.table c.if-p-lt2.false c.in_default.ensures c.descend.ensures

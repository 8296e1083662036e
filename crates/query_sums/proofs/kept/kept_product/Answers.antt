-- `kept_product` keeps the weight times what it is given.
-- 0 times any number is 0; else a number above the largest stays one, or the product is tested as it is made.
use Rattle.query_sums.proofs.Keeping.{times_none, times_above, times_both}
use Rattle.query_sums.proofs.kept.kept_product.Goals as goal

pub returns-then-weight-eq0 : goal.returns-then-weight-eq0
returns-then-weight-eq0 c = search times_none

pub returns-in_err-a : goal.returns-in_err-a
returns-in_err-a c = times_above _ _ _ c.if-weight-eq0.false c.in_err-a.was c.from_residual.ensures

pub returns : goal.returns
returns c = times_both _ _ _ _ c.in_ok-a.was c.checked_mul.ensures

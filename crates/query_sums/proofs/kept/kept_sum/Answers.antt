-- `kept_sum` keeps the sum of what it is given.
-- A number above the largest makes the sum one; else the sum is tested as it is made.
use Rattle.query_sums.proofs.Keeping.{added_first, added_second, added_both}
use Rattle.query_sums.proofs.kept.kept_sum.Goals as goal

pub returns-in_err-a : goal.returns-in_err-a
returns-in_err-a c = added_first _ _ _ c.in_err-a.was c.from_residual.ensures

pub returns-in_err-b : goal.returns-in_err-b
returns-in_err-b c = added_second _ _ _ c.in_err-b.was c.from_residual-in_err-b.ensures

pub returns : goal.returns
returns c = added_both _ _ _ _ _ c.in_ok-a.was c.in_ok-b.was c.checked_add.ensures

-- `grow` adds a number where the sum fits.
-- The sum is tested as it is made, and put only then.
use Rattle.query_weight.proofs.Walking.{grown_above, grown_fits}
use Rattle.query_weight.proofs.walk.grow.Goals as goal

pub returns-in_err-sum : goal.returns-in_err-sum
returns-in_err-sum c = grown_above _ _ _ _ c.checked_add.ensures c.in_err-sum.was c.from_residual.ensures

pub returns : goal.returns
returns c = grown_fits _ _ _ _ c.checked_add.ensures c.in_ok-sum.was _

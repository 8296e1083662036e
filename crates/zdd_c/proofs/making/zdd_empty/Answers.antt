-- C is given 0 as the handle of {}.
-- That is the number that the call behind ensures.
use native.Mathlib.Omega.{arith}
use Rattle.zdd_c.proofs.making.zdd_empty.Goals as goal

pub returns : goal.returns
returns c = omega arith

-- The handle of {{}} is 1.
-- The code gives that number.
use mathlib.Core.Path.{refl}
use Rattle.store_fresh.proofs.base.Goals as goal

pub returns : goal.returns
returns c = refl

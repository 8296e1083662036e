-- The handle of {} is 0.
-- The code gives that number.
use mathlib.Core.Path.{refl}
use Rattle.store_fresh.proofs.empty.Goals as goal

pub returns : goal.returns
returns c = refl

-- `with_count` has the count that it is given and keeps the capacity and the limit.
-- It changes the count alone.
use mathlib.Core.Path.{refl}
use Rattle.store.proofs.record.Store.with_count.Goals as goal

pub returns : goal.returns
returns c = refl

-- `refuse` gives the refusal, and a record that is 0 in every field.
-- `new` ensures each of its three numbers.
use mathlib.Core.Path.{◌∙◌}
use Rattle.store.proofs.Fitting.{store_is}
use Rattle.store_fresh.proofs.refuse.Goals as goal

pub returns : goal.returns
returns c = (c.refused.ensures.0 ∙ store_is c.new.ensures.0 c.new.ensures.1 c.new.ensures.2, c.refused.ensures.1)

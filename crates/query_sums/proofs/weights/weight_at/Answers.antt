-- `weight_at` reads the weight of an item, at one less than its number.
-- Past the list the definition has 0, as the code does.
use Rattle.std.proofs.Common.{◌∙◌, arith}
use Rattle.query_sums.proofs.weights.weight_at.Goals as goal

pub returns-clause-is : goal.returns-clause-is
returns-clause-is c = λ l. c.from.ensures ∙ c.unwrap_or.ensures ∙ rw c.copied.ensures (c.get.ensures.lookup.4 (omega arith) 0)

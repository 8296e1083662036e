-- `weight_tested` is the tests of the definition.
-- It is what `tested` finds, with the number of the list's own test put in.
use Rattle.query_weight.proofs.tests.weight_tested.Goals as goal

pub returns : goal.returns
returns c = rw c.weights_test.ensures at c.tested.ensures

-- `weights_test` is the test of the definition.
-- Its two cases.
use Rattle.query_weight.proofs.Answering.{list_refused, list_taken}
use Rattle.query_weight.proofs.tests.weights_test.Goals as goal

pub returns-then-long-ne512 : goal.returns-then-long-ne512
returns-then-long-ne512 c = search list_refused

pub returns : goal.returns
returns c = search list_taken

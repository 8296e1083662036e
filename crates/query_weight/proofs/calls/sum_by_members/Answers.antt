-- `sum_by_members` tests in the order of the definition, and adds the weights of all members below the handle.
-- Each way out is one law of answering.
use mathlib.Core.Path.{refl}
use native.Mathlib.Omega.{arith}
use Rattle.store.proofs.Answers.{passed_on}
use Rattle.store.proofs.Testing.{tested_clear}
use Rattle.query_weight.specs.Promise.{by_members}
use Rattle.query_weight.proofs.Walking.{walked_sum}
use Rattle.query_weight.proofs.Answering.{weigh_refused, weigh_answered}
use Rattle.query_weight.proofs.calls.sum_by_members.Goals as goal

pub returns-in_err-weight_tested : goal.returns-in_err-weight_tested
returns-in_err-weight_tested c =
    let a = c.args in
    weigh_refused by_members a.store a.nodes.now a.lookup.now a.p a.weights.now a.scratch.now _ c.weight_tested.ensures c.in_err-weight_tested.was (passed_on _ c.from_residual.ensures.1)

pub add_members-fits-requires : goal.add_members-fits-requires
add_members-fits-requires c =
    let P = tested_clear c.args.nodes.now c.args.lookup.now c.weight_tested.ensures c.in_ok-weight_tested.was in
    record { words = omega (arith, P.roomy.within, P.roomy.words); small = omega (arith, P.roomy.within, P.roomy.small); low = omega arith; light = omega arith }

pub returns : goal.returns
returns c =
    let P = tested_clear c.args.nodes.now c.args.lookup.now c.weight_tested.ensures c.in_ok-weight_tested.was in
    let a = c.args in
    weigh_answered by_members a.store a.nodes.now a.lookup.now a.p a.weights.now a.scratch.now _ P _ refl refl _
    (λ limit H. walked_sum _ P.passed.first c.add_members-fits.ensures H) (rw c.and.ensures at c.ok_or.ensures.value)

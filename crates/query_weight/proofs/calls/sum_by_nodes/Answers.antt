-- `sum_by_nodes` tests in the order of the definition, puts the numbers of the nodes up to the handle and reads its sum.
-- Each way out is one law of answering.
use native.Mathlib.Omega.{arith}
use Rattle.store.proofs.Answers.{passed_on}
use Rattle.store.proofs.Testing.{tested_clear}
use Rattle.query_sums.proofs.Filling.{filled_sum, filled_rest}
use Rattle.query_weight.specs.Promise.{by_nodes}
use Rattle.query_weight.proofs.Answering.{weigh_refused, weigh_answered}
use Rattle.query_weight.proofs.calls.sum_by_nodes.Goals as goal

pub returns-in_err-weight_tested : goal.returns-in_err-weight_tested
returns-in_err-weight_tested c =
    let a = c.args in
    weigh_refused by_nodes a.store a.nodes.now a.lookup.now a.p a.weights.now a.scratch.now _ c.weight_tested.ensures c.in_err-weight_tested.was (passed_on _ c.from_residual.ensures.1)

pub weigh_nodes-requires : goal.weigh_nodes-requires
weigh_nodes-requires c =
    let P = tested_clear c.args.nodes.now c.args.lookup.now c.weight_tested.ensures c.in_ok-weight_tested.was in
    record {
      nodes = record { held = P.passed.first; words = omega (arith, P.roomy.within, P.roomy.words); small = omega (arith, P.roomy.within, P.roomy.small) };
      words = record { long = P.passed.room; small = omega (arith, P.roomy.within, P.roomy.small) };
    }

pub both_at-both-requires : goal.both_at-both-requires
both_at-both-requires c =
    let P = tested_clear c.args.nodes.now c.args.lookup.now c.weight_tested.ensures c.in_ok-weight_tested.was in
    record { long = omega (arith, P.passed.room, c.weigh_nodes.ensures.long); small = omega (arith, P.roomy.within, P.roomy.small) }

pub returns : goal.returns
returns c =
    let P = tested_clear c.args.nodes.now c.args.lookup.now c.weight_tested.ensures c.in_ok-weight_tested.was in
    let a = c.args in
    let F = c.weigh_nodes.ensures in
    weigh_answered by_nodes a.store a.nodes.now a.lookup.now a.p a.weights.now a.scratch.now _ P _ F.long
    (filled_rest a.nodes.now a.weights.now a.store.count F) _
    (λ limit H. filled_sum a.nodes.now a.weights.now a.store.count (omega (arith, P.passed.first)) F _ c.both_at-both.ensures _ _ H) c.ok_or.ensures.value

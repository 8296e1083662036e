-- `asked` tests in document 01's order, then goes the way down.
-- Each way out is one law of answering.
use Rattle.std.proofs.Common.{arith}
use Rattle.std.proofs.lemmas.Result.{err_from_is_err_and}
use Rattle.store.proofs.Testing.{tested_clear}
use Rattle.query_has.proofs.Asking.{has_refused, has_answered}
use Rattle.query_has.proofs.asked.Goals as goal

pub returns-in_err-tested : goal.returns-in_err-tested
returns-in_err-tested c =
    let e = err_from_is_err_and c.from_residual.result c.from_residual.ensures.1 in
    rw (e.1, e.2) (has_refused _ _ _ _ _ c.tested.ensures c.in_err-tested.was)

pub is_member-requires : goal.is_member-requires
is_member-requires c =
    let a = c.args in
    let P = tested_clear a.nodes.now a.lookup.now c.tested.ensures c.in_ok-tested.was in
    record { held = P.passed.first; words = omega (arith, P.roomy.within, P.roomy.words); small = omega (arith, P.roomy.within, P.roomy.small) }

pub returns : goal.returns
returns c =
    let a = c.args in
    has_answered _ _ _ _ _ (tested_clear a.nodes.now a.lookup.now c.tested.ensures c.in_ok-tested.was) c.is_member.ensures

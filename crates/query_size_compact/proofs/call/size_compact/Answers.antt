-- `size_compact` tests the record and the handle, and counts.
-- Each way out is one law of answering.
use native.Mathlib.Omega.{arith}
use Rattle.store.proofs.Testing.{tested_clear}
use Rattle.query_size_compact.proofs.Answering.{compact_refused, compact_counted}
use Rattle.query_size_compact.proofs.call.size_compact.Goals as goal

pub returns-in-Err : goal.returns-in-Err
returns-in-Err c =
    let a = c.args in
    compact_refused a.store a.nodes.now a.lookup.now a.p _ _ c.refused.ensures.0 c.tested.ensures c.in-Err.is c.refused.ensures.1

pub counted-requires : goal.counted-requires
counted-requires c =
    let a = c.args in
    let P = tested_clear a.nodes.now a.lookup.now c.tested.ensures c.in_default.is in
    record { held = P.passed.first; words = omega (arith, P.roomy.within, P.roomy.words); small = omega (arith, P.roomy.within, P.roomy.small) }

pub returns : goal.returns
returns c =
    let a = c.args in
    compact_counted a.store a.nodes.now a.lookup.now a.p _ _ c.answered.ensures.0 (tested_clear a.nodes.now a.lookup.now c.tested.ensures c.in_default.is)
    (rw c.answered.ensures.1 c.counted.ensures)

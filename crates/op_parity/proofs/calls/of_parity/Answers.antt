-- `of_parity` tests in document 01's order, then runs the recursion of the parity and ends as every placing call does.
-- Each way out is one law of refusing, or of a part that ran to its end.
use Rattle.std.proofs.Common.{ℕ, List, ◌≡◌, ◌≤◌}
use Rattle.store.specs.declared.record.Store.{Store}
use Rattle.store.specs.Words.{top_at}
use native.Mathlib.Omega.{arith}
use Rattle.store.specs.Inner.{fill_in}
use Rattle.store.proofs.Calls.{call_high}
use Rattle.store.proofs.Fitting.{fits_true}
use Rattle.store.proofs.Growing.{kept_roomy}
use Rattle.store.proofs.Testing.{Tested, tested_clear, placing_refused}
use Rattle.store_undo.proofs.Finishing.{finished_held}
use Rattle.op_parity.specs.Inner.{PartAsks}
use Rattle.op_parity.proofs.Splits.{ran_leaf}
use Rattle.op_parity.proofs.Done.{part_done}
use Rattle.op_parity.proofs.calls.of_parity.Goals as goal

-- the tests passed, and the top is at most the limit
asks : {s : Store} {nodes lookup : List ℕ} {p level : ℕ} → Tested s nodes lookup p 0 0 0 0 → level ≡ top_at nodes p → level ≤ s.limit
    → PartAsks p level (fill_in s) nodes lookup
asks P e l =
    let low = (fits_true _ _ _ P.fits).limit_is.1 in
    record { roomy = P.roomy; held = P.passed.first; level_is = e; level_low = omega arith }

pub returns-in-Err : goal.returns-in-Err
returns-in-Err c =
    let a = c.args in
    placing_refused a.nodes.now a.lookup.now c.tested.ensures c.in-Err.is (λ e. omega arith) (λ d. d) _ _ c.refused.result c.refused.ensures.0 c.refused.ensures.1

pub top_of-level-requires : goal.top_of-level-requires
top_of-level-requires c =
    let P = tested_clear c.args.nodes.now c.args.lookup.now c.tested.ensures c.in_default.is in
    record { held = P.passed.first; words = omega (arith, P.roomy.within, P.roomy.words) }

pub returns-then-store-level : goal.returns-then-store-level
returns-then-store-level c =
    let P = tested_clear c.args.nodes.now c.args.lookup.now c.tested.ensures c.in_default.is in
    call_high _ _ _ _ _ _ c.refused-then-store-level.result P.fits _ P.passed.first (omega (arith, c.top_of-level.ensures, c.if-store-level.true)) _ c.refused-then-store-level.ensures.0 c.refused-then-store-level.ensures.1

pub returns-then-level-eq0 : goal.returns-then-level-eq0
returns-then-level-eq0 c =
    let a = c.args in
    let P = tested_clear c.args.nodes.now c.args.lookup.now c.tested.ensures c.in_default.is in
    let A = asks P c.top_of-level.ensures c.if-store-level.false in
    part_done a.even _ _ _ _ _ P.fits P.number_is (ran_leaf a.even A c.if-level-eq0.true a.cache.now)
    (finished_held a.store _ a.nodes.now a.lookup.now a.cache.now c.placed.result c.placed.ensures.0 (rw c.leaf_part.ensures at c.placed.ensures.1))

pub expand-answer-requires : goal.expand-answer-requires
expand-answer-requires c =
    let P = tested_clear c.args.nodes.now c.args.lookup.now c.tested.ensures c.in_default.is in
    let A = asks P c.top_of-level.ensures c.if-store-level.false in
    rw c.fill-fill.ensures (record { asks = A; some = omega (arith, c.if-level-eq0.false) })

pub finish-requires : goal.finish-requires
finish-requires c =
    let P = tested_clear c.args.nodes.now c.args.lookup.now c.tested.ensures c.in_default.is in
    let A = asks P c.top_of-level.ensures c.if-store-level.false in
    let K = (rw c.fill-fill.ensures at c.expand-answer.ensures).kept in
    record { roomy = rw K.same_capacity at (kept_roomy K A.roomy); fewer = K.grows }

pub returns : goal.returns
returns c =
    let P = tested_clear c.args.nodes.now c.args.lookup.now c.tested.ensures c.in_default.is in
    part_done c.args.even _ _ _ _ _ P.fits P.number_is (rw c.fill-fill.ensures at c.expand-answer.ensures) c.finish.ensures

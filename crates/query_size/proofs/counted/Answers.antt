-- `counted` tests in document 01's order, fills the scratch and reads the size from it.
-- Each way out is one law of answering.
use mathlib.Core.Path.{refl}
use native.Mathlib.Omega.{arith}
use Rattle.store.proofs.Answers.{passed_on}
use Rattle.store.proofs.Testing.{tested_clear}
use Rattle.query_size.proofs.Answering.{size_refused, size_large, size_brim, size_below}
use Rattle.query_size.proofs.counted.Goals as goal
use Rattle.query_size.proofs.counted.Goals.{else-members-via-then-members+else-exceeds, else-members-via-else-members}

pub returns-in_err-tested : goal.returns-in_err-tested
returns-in_err-tested c =
    let a = c.args in
    size_refused a.store a.nodes.now a.lookup.now a.p _ _ c.tested.ensures c.in_err-tested.was (passed_on _ c.from_residual.ensures.1)

pub fill_sizes-requires : goal.fill_sizes-requires
fill_sizes-requires c =
    let P = tested_clear c.args.nodes.now c.args.lookup.now c.tested.ensures c.in_ok-tested.was in
    record { words = omega (arith, P.roomy.within, P.roomy.words); scratch = P.passed.room; small = omega (arith, P.roomy.within, P.roomy.small) }

pub exceeds-requires : goal.exceeds-requires
exceeds-requires c =
    let P = tested_clear c.args.nodes.now c.args.lookup.now c.tested.ensures c.in_ok-tested.was in
    record { held = P.passed.first; words = omega (arith, P.roomy.within, P.roomy.words); small = omega (arith, P.roomy.within, P.roomy.small) }

pub returns-then-exceeds : goal.returns-then-exceeds
returns-then-exceeds c =
    let a = c.args in
    let P = tested_clear a.nodes.now a.lookup.now c.tested.ensures c.in_ok-tested.was in
    size_large a.store a.nodes.now a.lookup.now a.p _ _ P _ c.fill_sizes.ensures _
    c.size_at-members.ensures c.if-members.true c.exceeds.ensures c.if-exceeds.true refl

pub returns : goal.returns
returns c =
    let a = c.args in
    let P = tested_clear a.nodes.now a.lookup.now c.tested.ensures c.in_ok-tested.was in
    elim c.else-members.branch [
      | else-members-via-then-members+else-exceeds w ↦
          size_brim a.store a.nodes.now a.lookup.now a.p _ _ P _ c.fill_sizes.ensures _
          c.size_at-members.ensures w.if-members.true w.exceeds.ensures w.if-exceeds.false refl
      | else-members-via-else-members w ↦
          size_below a.store a.nodes.now a.lookup.now a.p _ _ P _ c.fill_sizes.ensures _ c.size_at-members.ensures w.if-members.false refl
    ]

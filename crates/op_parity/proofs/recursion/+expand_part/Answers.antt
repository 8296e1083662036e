-- `part` and `expand` run Even and Odd: the level falls from `expand` to the parts of both sides, and `part` comes just
-- above `expand` of its level.
-- Every way out is a top of 0, a recalled result, or one step over the two results below.
use native.Mathlib.Omega.{arith}
use Rattle.std.proofs.Common.{rules}
use Rattle.store.proofs.Answers.{passed_on}
use Rattle.store_sides.proofs.Answers.{sides_two}
use Rattle.op_parity.proofs.Splits.{ran_leaf, sides_asks, one_asks}
use Rattle.op_parity.proofs.Parting.{part_known, part_broken, part_first, part_second, part_node, part_made}
use Rattle.op_parity.proofs.recursion.+expand_part.Goals as goal

pub part-returns-then-level-eq0 : goal.part-returns-then-level-eq0
part-returns-then-level-eq0 t c = rw c.leaf_part.ensures (ran_leaf c.args.even c.requires c.if-level-eq0.true c.args.cache.now)

pub part-expand-requires : goal.part-expand-requires
part-expand-requires t c =
    (omega arith, record { asks = c.requires; some = omega (arith, c.if-level-eq0.false) })

pub part-returns : goal.part-returns
part-returns t c = c.expand.ensures

pub expand-recall-requires : goal.expand-recall-requires
expand-recall-requires t c =
    let R = c.requires.asks.roomy in
    omega (arith, R.within, R.small)

pub expand-returns-in-Some : goal.expand-returns-in-Some
expand-returns-in-Some t c = part_known c.args.even c.requires c.in-Some.is (rw c.number_of.ensures at c.recall.ensures)

pub expand-sides_at-requires : goal.expand-sides_at-requires
expand-sides_at-requires t c = sides_asks c.requires

pub expand-returns-in_default-sides_at : goal.expand-returns-in_default-sides_at
expand-returns-in_default-sides_at t c = part_broken c.args.even c.requires c.sides_at.ensures c.in_default-sides_at.is

pub expand-returns-in_err-zero : goal.expand-returns-in_err-zero
expand-returns-in_err-zero t c =
    rw (passed_on _ c.from_residual.ensures.1, ← c.in_err-zero.was) (part_first c.args.even c.requires c.sides_at.ensures c.in-Some-sides_at.is c.part.ensures c.in_err-zero.was)

pub expand-part-requires-2 : goal.expand-part-requires-2
expand-part-requires-2 t c =
    let K = sides_two c.in-Some-sides_at.is c.sides_at.ensures in
    (omega (arith, K.one_below), one_asks c.requires K c.part.ensures.kept)

pub expand-returns-in_err-one : goal.expand-returns-in_err-one
expand-returns-in_err-one t c =
    rw (passed_on _ c.from_residual-in_err-one.ensures.1, ← c.in_err-one.was)
    (part_second c.args.even c.requires c.sides_at.ensures c.in-Some-sides_at.is c.part.ensures c.in_ok-zero.was c.part-2.ensures c.in_err-one.was)

pub expand-node_of-made-requires : goal.expand-node_of-made-requires
expand-node_of-made-requires t c =
    let N = part_node c.args.even c.requires c.sides_at.ensures c.in-Some-sides_at.is c.part.ensures c.in_ok-zero.was c.part-2.ensures c.in_ok-one.was in
    search rules

pub expand-returns : goal.expand-returns
expand-returns t c =
    part_made c.args.even c.requires c.sides_at.ensures c.in-Some-sides_at.is c.part.ensures c.in_ok-zero.was c.part-2.ensures c.in_ok-one.was c.node_of-made.ensures
    (rw c.number_of.ensures at c.keep.ensures)

-- `restrict` and `expand` run the operation on a family and an item: the level falls from `expand` to each
-- `restrict`, and `restrict` comes just above `expand` of its level.
-- Every way out is one at or above the top, a recalled result, or one step over the two results below.
use mathlib.Core.Path.{ap}
use native.Mathlib.Omega.{arith}
use Rattle.op_terminal.specs.Inner.{item_number}
use Rattle.store.proofs.Answers.{passed_on}
use Rattle.store.proofs.Growing.{kept_top, kept_roomy}
use Rattle.store.proofs.Plain.{plain_ran}
use Rattle.store_sides.proofs.Answers.{sides_two, sides_broken}
use Rattle.op_cache.specs.Inner.{call_of}
use Rattle.op_step.proofs.Steps.{node_asks, step_first, step_second, step_done}
use Rattle.op_step.proofs.Outcomes.{ran_broken, ran_recalled}
use Rattle.op_items.proofs.Splits.{ran_none, ran_whole, split_item}
use Rattle.std.proofs.Common.{rules}
use Rattle.op_items.proofs.recursion.+expand_restrict.Goals as goal

pub expand-recall-requires : goal.expand-recall-requires
expand-recall-requires t c =
    let p = c.requires in
    omega (arith, p.asks.taken.roomy.within, p.asks.taken.roomy.small)

pub expand-returns-in-Some : goal.expand-returns-in-Some
expand-returns-in-Some t c =
    let a = c.args in
    let p = c.requires in
    ran_recalled a.item a.fill.now a.nodes.now a.lookup.now a.cache.now p.asks.taken.roomy (call_of (item_number a.op) a.p a.item) _ (omega (arith, p.asks.taken.operation.some)) c.in-Some.is (rw c.into.ensures at c.recall.ensures)

pub expand-sides_at-requires : goal.expand-sides_at-requires
expand-sides_at-requires t c =
    let p = c.requires in
    let I = p.asks.taken in
    record {
      held = I.held;
      words = omega (arith, I.roomy.within, I.roomy.words);
      small = omega (arith, I.roomy.within, I.roomy.small);
      top_low = omega (arith, p.asks.level_is);
      some = omega (arith, p.below);
    }

pub expand-returns-in_default-sides_at : goal.expand-returns-in_default-sides_at
expand-returns-in_default-sides_at t c =
    let a = c.args in
    let p = c.requires in
    ran_broken a.item a.fill.now a.nodes.now a.lookup.now a.cache.now p.asks.taken.roomy (call_of (item_number a.op) a.p a.item) (λ l B H. sides_broken c.in_default-sides_at.is c.sides_at.ensures l B a.lookup.now H)

pub expand-restrict-requires : goal.expand-restrict-requires
expand-restrict-requires t c =
    let p = c.requires in
    let K = sides_two c.in-Some-sides_at.is c.sides_at.ensures in
    let I = p.asks.taken in
    (omega arith, search rules)

pub expand-returns-in_err-zero : goal.expand-returns-in_err-zero
expand-returns-in_err-zero t c =
    let a = c.args in
    let p = c.requires in
    let K = sides_two c.in-Some-sides_at.is c.sides_at.ensures in
    rw (passed_on _ c.from_residual.ensures.1, ← c.in_err-zero.was)
    (step_first (call_of (item_number a.op) a.p a.item) _ _ a.level a.fill.now a.nodes.now a.lookup.now a.cache.now (split_item p K) c.restrict.ensures _ c.in_err-zero.was)

pub expand-restrict-requires-2 : goal.expand-restrict-requires-2
expand-restrict-requires-2 t c =
    let p = c.requires in
    let K = sides_two c.in-Some-sides_at.is c.sides_at.ensures in
    let L = c.restrict.ensures.kept in
    let I = p.asks.taken in (
      omega (arith, K.one_below),
      record {
        taken = record {
          roomy = kept_roomy L I.roomy;
          operation = I.operation;
          held = omega (arith, K.halves.one_within, L.grows);
          item_some = I.item_some;
          item_low = I.item_low;
        };
        level_is = omega (arith, K.otop, kept_top L _ K.halves.one_within);
        level_low = omega (arith, K.one_below, p.asks.level_low);
      },
    )

pub expand-returns-in_err-one : goal.expand-returns-in_err-one
expand-returns-in_err-one t c =
    let a = c.args in
    let p = c.requires in
    let K = sides_two c.in-Some-sides_at.is c.sides_at.ensures in
    rw (passed_on _ c.from_residual-in_err-one.ensures.1, ← c.in_err-one.was)
    (step_second (call_of (item_number a.op) a.p a.item) _ _ a.level a.fill.now a.nodes.now a.lookup.now a.cache.now (split_item p K) c.restrict.ensures _ c.in_ok-zero.was c.restrict-2.ensures _ c.in_err-one.was)

pub expand-node_of-made-requires : goal.expand-node_of-made-requires
expand-node_of-made-requires t c =
    let p = c.requires in
    let N = node_asks p.asks.taken.roomy c.restrict.ensures c.in_ok-zero.was c.restrict-2.ensures c.in_ok-one.was (omega (arith, p.below)) p.asks.level_low in
    search rules

pub expand-returns : goal.expand-returns
expand-returns t c =
    let a = c.args in
    let p = c.requires in
    let K = sides_two c.in-Some-sides_at.is c.sides_at.ensures in
    step_done (call_of (item_number a.op) a.p a.item) _ _ a.level a.fill.now a.nodes.now a.lookup.now a.cache.now (split_item p K) c.restrict.ensures _ c.in_ok-zero.was c.restrict-2.ensures _ c.in_ok-one.was c.node_of-made.ensures (rw c.into.ensures at c.keep.ensures)

pub restrict-returns-in-Subset1 : goal.restrict-returns-in-Subset1
restrict-returns-in-Subset1 t c = ran_none c.requires c.args.cache.now c.if-level-item.true (ap item_number c.in-Subset1.is)

pub restrict-returns-in-Subset0 : goal.restrict-returns-in-Subset0
restrict-returns-in-Subset0 t c = ran_whole c.requires c.args.cache.now c.if-level-item.true (ap item_number c.in-Subset0.is)

pub restrict-leaf-requires : goal.restrict-leaf-requires
restrict-leaf-requires t c =
    let p = c.requires in
    record { taken = p.taken; level_is = p.level_is; not_below = c.if-level-item-2.true }

pub restrict-returns-then-level-item-2 : goal.restrict-returns-then-level-item-2
restrict-returns-then-level-item-2 t c =
    let a = c.args in
    plain_ran a.item _ a.fill.now a.nodes.now a.lookup.now a.cache.now c.leaf.ensures

pub restrict-expand-requires : goal.restrict-expand-requires
restrict-expand-requires t c =
    let p = c.requires in
    (omega (arith), record { asks = p; below = omega (arith, c.if-level-item-2.false) })

pub restrict-returns : goal.restrict-returns
restrict-returns t c = c.expand.ensures

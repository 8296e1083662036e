-- `apply` and `expand` run the operation on two families: the bound falls from `expand` to each `apply`, and `apply`
-- comes just above `expand` of its bound.
-- Every way out is a terminal case, a recalled result, or one step over the two results below.
use native.Mathlib.Omega.{arith}
use Rattle.op_terminal.specs.Inner.{set_number}
use Rattle.store.proofs.Answers.{passed_on}
use Rattle.store.proofs.Growing.{kept_added, kept_roomy}
use Rattle.store_sides.proofs.Splitting.{low_added}
use Rattle.op_cache.specs.Inner.{call_of}
use Rattle.op_step.proofs.Steps.{node_asks, step_first, step_second, step_done}
use Rattle.op_step.proofs.Outcomes.{ran_broken, ran_recalled}
use Rattle.op_families.proofs.Forks.{fork_two, fork_broken}
use Rattle.op_families.proofs.Splits.{split_families, level_item}
use Rattle.op_families.proofs.Shortcuts.{ran_terminal, ordered_step, ran_ordered}
use Rattle.std.proofs.Common.{rules}
use Rattle.op_families.proofs.recursion.+apply_expand.Goals as goal

pub apply-returns-in-Some : goal.apply-returns-in-Some
apply-returns-in-Some t c = ran_terminal c.requires c.args.cache.now c.in-Some.is c.shortcut.ensures

pub apply-expand-requires : goal.apply-expand-requires
apply-expand-requires t c =
    let p = c.requires in
    (omega (arith), ordered_step c.ordered-first.ensures p c.in_default.is c.shortcut.ensures)

pub apply-returns : goal.apply-returns
apply-returns t c = ran_ordered c.ordered-first.ensures c.requires c.args.cache.now c.expand.ensures

pub expand-recall-requires : goal.expand-recall-requires
expand-recall-requires t c =
    let p = c.requires in
    omega (arith, p.asks.taken.roomy.within, p.asks.taken.roomy.small)

pub expand-returns-in-Some : goal.expand-returns-in-Some
expand-returns-in-Some t c =
    let a = c.args in
    let p = c.requires in
    ran_recalled 0 a.fill.now a.nodes.now a.lookup.now a.cache.now p.asks.taken.roomy (call_of (set_number a.op) a.p a.q) _ (omega (arith, p.asks.taken.operation.some)) c.in-Some.is (rw c.into.ensures at c.recall.ensures)

pub expand-fork_at-requires : goal.expand-fork_at-requires
expand-fork_at-requires t c =
    let p = c.requires in
    let I = p.asks.taken in
    rw c.into.ensures record {
      first = I.first;
      second = I.second;
      words = omega (arith, I.roomy.within, I.roomy.words);
      small = omega (arith, I.roomy.within, I.roomy.small);
      first_low = p.asks.first_low;
      second_low = p.asks.second_low;
      proper = p.proper;
    }

pub expand-returns-in_default-fork_at : goal.expand-returns-in_default-fork_at
expand-returns-in_default-fork_at t c =
    let a = c.args in
    let p = c.requires in
    ran_broken 0 a.fill.now a.nodes.now a.lookup.now a.cache.now p.asks.taken.roomy (call_of (set_number a.op) a.p a.q) (λ l B H. fork_broken c.in_default-fork_at.is (rw c.into.ensures at c.fork_at.ensures) l B a.lookup.now H)

pub expand-apply-requires : goal.expand-apply-requires
expand-apply-requires t c =
    let p = c.requires in
    let K = fork_two c.in-Some-fork_at.is (rw c.into.ensures at c.fork_at.ensures) in
    let I = p.asks.taken in (
      omega (arith, K.lower),
      record {
        taken = search rules;
        first_low = search;
        second_low = search;
        bound_low = omega (arith, K.lower, p.asks.bound_low);
      },
    )

pub expand-returns-in_err-zero : goal.expand-returns-in_err-zero
expand-returns-in_err-zero t c =
    let a = c.args in
    let p = c.requires in
    let K = fork_two c.in-Some-fork_at.is (rw c.into.ensures at c.fork_at.ensures) in
    rw (passed_on _ c.from_residual.ensures.1, ← c.in_err-zero.was)
    (step_first (call_of (set_number a.op) a.p a.q) _ _ _ a.fill.now a.nodes.now a.lookup.now a.cache.now (split_families p.asks K) c.apply.ensures _ c.in_err-zero.was)

pub expand-apply-requires-2 : goal.expand-apply-requires-2
expand-apply-requires-2 t c =
    let p = c.requires in
    let K = fork_two c.in-Some-fork_at.is (rw c.into.ensures at c.fork_at.ensures) in
    let L = c.apply.ensures.kept in
    let I = p.asks.taken in (
      omega (arith, K.lower),
      record {
        taken = record {
          roomy = kept_roomy L I.roomy;
          operation = I.operation;
          first = omega (arith, K.first.one_within, L.grows);
          second = omega (arith, K.second.one_within, L.grows);
        };
        first_low = low_added (kept_added L) K.first.one_low;
        second_low = low_added (kept_added L) K.second.one_low;
        bound_low = omega (arith, K.lower, p.asks.bound_low);
      },
    )

pub expand-returns-in_err-one : goal.expand-returns-in_err-one
expand-returns-in_err-one t c =
    let a = c.args in
    let p = c.requires in
    let K = fork_two c.in-Some-fork_at.is (rw c.into.ensures at c.fork_at.ensures) in
    rw (passed_on _ c.from_residual-in_err-one.ensures.1, ← c.in_err-one.was)
    (step_second (call_of (set_number a.op) a.p a.q) _ _ _ a.fill.now a.nodes.now a.lookup.now a.cache.now (split_families p.asks K) c.apply.ensures _ c.in_ok-zero.was c.apply-2.ensures _ c.in_err-one.was)

pub expand-node_of-made-requires : goal.expand-node_of-made-requires
expand-node_of-made-requires t c =
    let p = c.requires in
    let K = fork_two c.in-Some-fork_at.is (rw c.into.ensures at c.fork_at.ensures) in
    let i = level_item p.asks K in
    let N = node_asks p.asks.taken.roomy c.apply.ensures c.in_ok-zero.was c.apply-2.ensures c.in_ok-one.was i.0 i.1 in
    search rules

pub expand-returns : goal.expand-returns
expand-returns t c =
    let a = c.args in
    let p = c.requires in
    let K = fork_two c.in-Some-fork_at.is (rw c.into.ensures at c.fork_at.ensures) in
    step_done (call_of (set_number a.op) a.p a.q) _ _ _ a.fill.now a.nodes.now a.lookup.now a.cache.now (split_families p.asks K) c.apply.ensures _ c.in_ok-zero.was c.apply-2.ensures _ c.in_ok-one.was c.node_of-made.ensures (rw c.into.ensures at c.keep.ensures)

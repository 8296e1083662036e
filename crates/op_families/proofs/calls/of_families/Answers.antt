-- `of_families` tests in document 01's order, then runs the recursion and ends as every placing call does.
-- Each way out is one law of refusing, or of a call that ran to its end.
use mathlib.Core.Path.{◌≡◌, sym, ◌∙◌}
use native.Mathlib.Omega.{arith}
use Rattle.std.proofs.Common.{◌+◌, ℕ, List, length, true}
use Rattle.family.specs.Family.{largest_item}
use Rattle.store.specs.declared.record.Store.{Store}
use Rattle.std.specs.Bool.{⊤}
use Rattle.std.proofs.Common.{Result, Ok}
use Rattle.store.specs.declared.record.Refusal.{Refusal}
use Rattle.store.specs.Capacity.{fitting}
use Rattle.store.specs.Tests.{Found}
use Rattle.op_terminal.specs.Inner.{OnFamilies, set_number}
use Rattle.op_terminal.proofs.Orders.{on_families}
use Rattle.store.specs.Inner.{fill_in}
use Rattle.store.proofs.Growing.{kept_roomy}
use Rattle.store.proofs.Testing.{tested_clear, placing_refused}
use Rattle.store_undo.proofs.Finishing.{finished_held}
use Rattle.store_sides.proofs.Splitting.{low_largest}
use Rattle.op_cache.specs.Inner.{call_of}
use Rattle.op_promise.specs.Promise.{operation_refusal}
use Rattle.op_promise.proofs.Refusing.{family_number, done}
use Rattle.op_families.specs.Inner.{ApplyAsks}
use Rattle.op_families.proofs.Shortcuts.{ran_terminal, ordered_step, ran_ordered}
use Rattle.op_families.proofs.calls.of_families.Goals as goal

-- what is known once the tests passed
record Ready (op : ℕ) (s : Store) (nodes lookup : List ℕ) (p q : ℕ) : Type 0 where
  fits : fitting s (length nodes) (length lookup) ≡ true
  none : operation_refusal op s.limit s.count p q ≡ 0
  asks : ApplyAsks (call_of op p q) (largest_item + 1) (fill_in s) nodes lookup

ready : {op : ℕ} {s : Store} (nodes lookup : List ℕ) {p q : ℕ} {found : Result ⊤ Refusal} → OnFamilies op
    → Found s (length nodes) (length lookup) p q 0 0 0 found → {u : ⊤} → found ≡ Ok u → Ready op s nodes lookup p q
ready {op = op} {s = s} nodes lookup {p = p} {q = q} O F e =
    let T = tested_clear nodes lookup F e in
    record {
      fits = T.fits;
      none = family_number op s.limit s.count p q O.some ∙ T.number_is;
      asks = record {
        taken = record { roomy = T.roomy; operation = O; first = T.passed.first; second = T.passed.second };
        first_low = low_largest T.passed.first;
        second_low = low_largest T.passed.second;
        bound_low = omega arith;
      };
    }

pub returns-in-Err : goal.returns-in-Err
returns-in-Err c =
    let a = c.args in
    let number = family_number (set_number a.op) a.store.limit a.store.count a.p a.q (on_families a.op).some in
    placing_refused a.nodes.now a.lookup.now c.tested.ensures c.in-Err.is (λ e. omega arith)
    (λ d. d ∙ sym number) _ _ c.refused.result c.refused.ensures.0 c.refused.ensures.1

pub returns-in-Some : goal.returns-in-Some
returns-in-Some c =
    let R = ready c.args.nodes.now c.args.lookup.now (on_families c.args.op) c.tested.ensures c.in_default.is in
    let a = c.args in
    done _ _ _ _ _ _ R.fits _ R.none (omega arith)
    (ran_terminal R.asks a.cache.now c.in-Some.is c.shortcut.ensures)
    (finished_held a.store _ a.nodes.now a.lookup.now a.cache.now c.placed.result c.placed.ensures.0 c.placed.ensures.1)

pub expand-answer-requires : goal.expand-answer-requires
expand-answer-requires c =
    let R = ready c.args.nodes.now c.args.lookup.now (on_families c.args.op) c.tested.ensures c.in_default.is in
    rw c.fill-fill.ensures (ordered_step c.ordered-first.ensures R.asks c.in_default-shortcut.is c.shortcut.ensures)

pub finish-requires : goal.finish-requires
finish-requires c =
    let R = ready c.args.nodes.now c.args.lookup.now (on_families c.args.op) c.tested.ensures c.in_default.is in
    let K = (rw c.fill-fill.ensures at c.expand-answer.ensures).kept in
    record { roomy = rw K.same_capacity at (kept_roomy K R.asks.taken.roomy); fewer = K.grows }

pub returns : goal.returns
returns c =
    let R = ready c.args.nodes.now c.args.lookup.now (on_families c.args.op) c.tested.ensures c.in_default.is in
    let a = c.args in
    done _ _ _ _ _ _ R.fits _ R.none (omega arith) (ran_ordered c.ordered-first.ensures R.asks a.cache.now (rw c.fill-fill.ensures at c.expand-answer.ensures)) c.finish.ensures

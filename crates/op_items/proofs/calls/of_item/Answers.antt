-- `of_item` tests in document 01's order, then runs the recursion and ends as every placing call does.
-- Each way out is one law of refusing, or of a call that ran to its end.
use Rattle.std.proofs.Common.{◌≤◌, ℕ, List, length}
use mathlib.Core.Path.{◌≡◌, sym, ap, ◌∙◌}
use native.Mathlib.Omega.{arith}
use Rattle.store.specs.declared.record.Store.{Store}
use Rattle.std.specs.Bool.{⊤}
use Rattle.std.proofs.Common.{Result, Ok}
use Rattle.store.specs.declared.record.Refusal.{Refusal}
use Rattle.store.specs.Tests.{tests_of, item_test, Found}
use Rattle.store.specs.Words.{top_at}
use Rattle.op_terminal.specs.Inner.{OnItem, item_number as number_of}
use Rattle.op_terminal.proofs.Restricting.{on_item}
use Rattle.store.specs.Inner.{fill_in}
use Rattle.store.proofs.Calls.{call_high}
use Rattle.store.proofs.Fitting.{fits_true}
use Rattle.store.proofs.Growing.{kept_roomy}
use Rattle.store.proofs.Plain.{plain_ran}
use Rattle.store.proofs.Testing.{Tested, item_passed, item_not_five, tested_clear, placing_refused}
use Rattle.op_cache.specs.Inner.{call_of}
use Rattle.op_promise.specs.Promise.{operation_refusal}
use Rattle.op_promise.proofs.Refusing.{item_number, done}
use Rattle.op_items.specs.Inner.{RestrictAsks}
use Rattle.op_items.proofs.calls.of_item.Goals as goal

-- what is known once the tests passed
record Ready (op : ℕ) (s : Store) (nodes lookup : List ℕ) (p item own : ℕ) : Type 0 where
  tests : Tested s nodes lookup p 0 own 0 0
  none : operation_refusal op s.limit s.count p item ≡ 0
  -- the item is one of the store's
  an_item : (1 ≤ item) × (item ≤ s.limit)

ready : {op : ℕ} {s : Store} (nodes lookup : List ℕ) {p item own : ℕ} {found : Result ⊤ Refusal} → OnItem op → own ≡ item_test s.limit item
    → Found s (length nodes) (length lookup) p 0 own 0 0 found → {u : ⊤} → found ≡ Ok u → Ready op s nodes lookup p item own
ready {op = op} {s = s} nodes lookup {p = p} {item = item} O own_is F e =
    let T = tested_clear nodes lookup F e in
    record {
      tests = T;
      none = item_number op s.limit s.count p item (omega (arith, O.low)) ∙ ap (λ o. tests_of s.count p 0 o 0 0) (sym own_is) ∙ T.number_is;
      an_item = item_passed s.limit item (sym own_is ∙ T.passed.none);
    }

asks : {op : ℕ} {s : Store} {nodes lookup : List ℕ} {p item own level : ℕ} → OnItem op → Ready op s nodes lookup p item own
    → level ≡ top_at nodes p → level ≤ s.limit → RestrictAsks (call_of op p item) level (fill_in s) nodes lookup
asks {s = s} O R e l =
    let P = R.tests in
    let low = (fits_true s _ _ P.fits).limit_is.1 in
    record {
      taken = record { roomy = P.roomy; operation = O; held = P.passed.first; item_some = R.an_item.0; item_low = omega (arith, R.an_item.1) };
      level_is = e;
      level_low = omega arith;
    }

pub returns-in-Err : goal.returns-in-Err
returns-in-Err c =
    let a = c.args in
    let own = c.item_test-own.ensures in
    let number = item_number (number_of a.op) a.store.limit a.store.count a.p a.item (omega (arith, (on_item a.op).low)) in
    placing_refused a.nodes.now a.lookup.now c.tested.ensures c.in-Err.is (item_not_five a.store.limit a.item own)
    (λ d. d ∙ ap (λ o. tests_of a.store.count a.p 0 o 0 0) own ∙ sym number) _ _ c.refused.result c.refused.ensures.0 c.refused.ensures.1

pub top_of-level-requires : goal.top_of-level-requires
top_of-level-requires c =
    let R = ready c.args.nodes.now c.args.lookup.now (on_item c.args.op) c.item_test-own.ensures c.tested.ensures c.in_default.is in
    let P = R.tests in
    record { held = P.passed.first; words = omega (arith, P.roomy.within, P.roomy.words) }

pub returns-then-store-level : goal.returns-then-store-level
returns-then-store-level c =
    let R = ready c.args.nodes.now c.args.lookup.now (on_item c.args.op) c.item_test-own.ensures c.tested.ensures c.in_default.is in
    let P = R.tests in
    call_high _ _ _ _ _ _ c.refused-then-store-level.result P.fits _ P.passed.first (omega (arith, c.top_of-level.ensures, c.if-store-level.true)) _ c.refused-then-store-level.ensures.0 c.refused-then-store-level.ensures.1

pub leaf-answer-requires : goal.leaf-answer-requires
leaf-answer-requires c =
    let R = ready c.args.nodes.now c.args.lookup.now (on_item c.args.op) c.item_test-own.ensures c.tested.ensures c.in_default.is in
    let A = asks (on_item c.args.op) R c.top_of-level.ensures c.if-store-level.false in
    rw c.fill-fill.ensures (record { taken = A.taken; level_is = A.level_is; not_below = c.if-level-item.true })

pub finish-requires : goal.finish-requires
finish-requires c =
    let R = ready c.args.nodes.now c.args.lookup.now (on_item c.args.op) c.item_test-own.ensures c.tested.ensures c.in_default.is in
    let A = asks (on_item c.args.op) R c.top_of-level.ensures c.if-store-level.false in
    let K = (rw c.fill-fill.ensures at c.leaf-answer.ensures).kept in
    record { roomy = rw K.same_capacity at (kept_roomy K A.taken.roomy); fewer = K.grows }

pub returns-then-level-item : goal.returns-then-level-item
returns-then-level-item c =
    let R = ready c.args.nodes.now c.args.lookup.now (on_item c.args.op) c.item_test-own.ensures c.tested.ensures c.in_default.is in
    let a = c.args in
    done _ _ _ _ _ _ R.tests.fits _ R.none R.an_item.1 (plain_ran _ _ (fill_in a.store) a.nodes.now a.lookup.now a.cache.now (rw c.fill-fill.ensures at c.leaf-answer.ensures)) c.finish.ensures

pub expand-answer-requires : goal.expand-answer-requires
expand-answer-requires c =
    let R = ready c.args.nodes.now c.args.lookup.now (on_item c.args.op) c.item_test-own.ensures c.tested.ensures c.in_default.is in
    let A = asks (on_item c.args.op) R c.top_of-level.ensures c.if-store-level.false in
    rw c.fill-fill.ensures (record { asks = A; below = omega (arith, c.if-level-item.false) })

pub finish-requires-2 : goal.finish-requires-2
finish-requires-2 c =
    let R = ready c.args.nodes.now c.args.lookup.now (on_item c.args.op) c.item_test-own.ensures c.tested.ensures c.in_default.is in
    let A = asks (on_item c.args.op) R c.top_of-level.ensures c.if-store-level.false in
    let K = (rw c.fill-fill.ensures at c.expand-answer.ensures).kept in
    record { roomy = rw K.same_capacity at (kept_roomy K A.taken.roomy); fewer = K.grows }

pub returns : goal.returns
returns c =
    let R = ready c.args.nodes.now c.args.lookup.now (on_item c.args.op) c.item_test-own.ensures c.tested.ensures c.in_default.is in
    done _ _ _ _ _ _ R.tests.fits _ R.none R.an_item.1 (rw c.fill-fill.ensures at c.expand-answer.ensures) c.finish-2.ensures

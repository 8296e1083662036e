-- The six calls keep the promise where they are refused by the tests or run to their end.
-- The tests that the calls make are the promise's own.
use Prim.Native.Nat.{ℕ, ◌≤◌, ◌<◌}
use mathlib.Core.Path.{◌≡◌}
use mathlib.Core.Bool.{true}
use mathlib.Core.List.{List}
use lib.ListN.{length}
use borrow.Author.Tests.{lt-ltb, le-ltb}
use Rattle.store.specs.declared.record.Store.{Store}
use Rattle.store.specs.declared.record.Placement.{Placement}
use Rattle.store.specs.declared.record.Answered.{Answered}
use Rattle.store.specs.Capacity.{fitting}
use Rattle.store.specs.Tests.{item_test, tests_of}
use Rattle.store.specs.Operations.{named}
use Rattle.std.proofs.Common.{Result}
use Rattle.store.specs.declared.record.Unplaced.{Unplaced}
use Rattle.store.specs.declared.record.Fill.{Fill}
use Rattle.store.specs.Inner.{fill_in, reached, Ran}
use Rattle.store_undo.specs.Inner.{Finished}
use Rattle.store_undo.proofs.Done.{call_done}
use Rattle.op_promise.specs.Promise.{operation_refusal, OperationCall}

module _ (op limit n p q : ℕ) where
  pub item_number : op < 4 → operation_refusal op limit n p q ≡ tests_of n p 0 (item_test limit q) 0 0
  unfolding operation_refusal
  item_number l = rw (lt-ltb op 4 l)

  pub family_number : 4 ≤ op → operation_refusal op limit n p q ≡ tests_of n p q 0 0 0
  unfolding operation_refusal
  family_number l = rw (le-ltb op 4 l)

module _ (op p q : ℕ) (s : Store) (nodes lookup : List ℕ) (fits : fitting s (length nodes) (length lookup) ≡ true) (cache : List ℕ) where
  -- a call that ran to its end
  pub done : operation_refusal op s.limit s.count p q ≡ 0 → {least : ℕ} → least ≤ s.limit → {fill : Fill} {answer : Result ℕ Unplaced} {nodes₁ lookup₁ cache₁ : List ℕ}
      → Ran least (λ B. named op B p q) (fill_in s) nodes lookup cache (reached fill answer) nodes₁ lookup₁ cache₁ → {r : Answered Placement} {nodes₂ lookup₂ cache₂ : List ℕ} → Finished s fill.count answer nodes₁ lookup₁ cache₁ r nodes₂ lookup₂ cache₂ → OperationCall op p q s nodes lookup cache r nodes₂ lookup₂ cache₂
  done none low R E = rw none (call_done s nodes lookup cache (λ B. named op B p q) fits low R E)

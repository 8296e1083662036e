-- Even or Odd keeps its promise where it ran to its end.
-- The family that its cache number names is the part that the promise places.
use Prim.Native.Nat.{ℕ}
use mathlib.Core.Path.{◌≡◌, sym}
use mathlib.Core.Bool.{Bool, true}
use mathlib.Core.List.{List}
use native.Mathlib.Omega.{arith}
use lib.ListN.{length}
use Rattle.family.specs.Book.{at}
use Rattle.family.specs.Parity.{parity}
use Rattle.store.specs.declared.record.Store.{Store}
use Rattle.store.specs.declared.record.Placement.{Placement}
use Rattle.store.specs.declared.record.Answered.{Answered}
use Rattle.store.specs.Capacity.{fitting}
use Rattle.std.proofs.Common.{Result}
use Rattle.store.specs.declared.record.Unplaced.{Unplaced}
use Rattle.store.specs.declared.record.Fill.{Fill}
use Rattle.store.specs.Inner.{fill_in, reached, Ran}
use Rattle.store.proofs.Naming.{named_part}
use Rattle.store_undo.specs.Inner.{Finished}
use Rattle.store_undo.proofs.Done.{call_done}
use Rattle.op_step.proofs.Steps.{of}
use Rattle.op_step.proofs.Outcomes.{ran_same}
use Rattle.op_parity.specs.Promise.{parity_refusal, ParityCall}
use Rattle.op_parity.proofs.Splits.{part_of}

module _ (even : Bool) (p : ℕ) (s : Store) (nodes lookup cache : List ℕ) (fits : fitting s (length nodes) (length lookup) ≡ true) (none : parity_refusal s.count p ≡ 0) where
  pub part_done : {fill : Fill} {answer : Result ℕ Unplaced} {nodes₁ lookup₁ cache₁ : List ℕ} → Ran 0 (of (part_of even p)) (fill_in s) nodes lookup cache (reached fill answer) nodes₁ lookup₁ cache₁
      → {r : Answered Placement} {nodes₂ lookup₂ cache₂ : List ℕ} → Finished s fill.count answer nodes₁ lookup₁ cache₁ r nodes₂ lookup₂ cache₂ → ParityCall even p s nodes lookup cache r nodes₂ lookup₂ cache₂
  part_done R E =
      rw none (call_done s nodes lookup cache (λ B. parity even (at B p)) fits (omega arith) (ran_same 0 (fill_in s) nodes lookup cache (λ l B H. sym (named_part even B p 0)) R) E)

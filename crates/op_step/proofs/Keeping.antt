-- What is remembered of an answer: a handle, and nothing of a refusal.
-- An answer is a handle or a refusal, never both.
use Prim.Native.Nat.{ℕ}
use mathlib.Core.Path.{◌≡◌, refl, sym, ◌∙◌}
use mathlib.Core.List.{List}
use Rattle.store.specs.declared.record.Unplaced.{Unplaced}
use Rattle.std.proofs.Common.{Result, Ok, Err}
use Rattle.store.proofs.Answers.{handle_is, not_both}
use Rattle.op_cache.specs.declared.Call.{Call}
use Rattle.op_cache.specs.Inner.{Remembered}
use Rattle.op_step.specs.Inner.{RememberedAnswer}

pub remembered_gave : (cache cache' : List ℕ) (call : Call) {a : Result ℕ Unplaced} (h : ℕ) → a ≡ Ok h → Remembered cache call h cache' → RememberedAnswer cache call a cache'
remembered_gave cache cache' call h e m =
    record { gave = λ g d. rw (← handle_is (sym e ∙ d)) m; refused = λ x d. not_both h x e d }

pub remembered_refused : (cache : List ℕ) (call : Call) {a : Result ℕ Unplaced} (x : Unplaced) → a ≡ Err x → RememberedAnswer cache call a cache
remembered_refused cache call x e = record { gave = λ h d. not_both h x d e; refused = λ y d. refl }

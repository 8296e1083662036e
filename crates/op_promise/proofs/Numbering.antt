-- The number of an operation: a number from 1 to 6 is its own, and every other one is taken for 6.
-- The definition's test of 0 and its minimum decide each case.
use Prim.Native.Nat.{ℕ, ◌≤◌, min}
use mathlib.Core.Path.{◌≡◌}
use native.Mathlib.Omega.{arith}
use borrow.Author.Tests.{ne_eqb}
use Rattle.words.proofs.Cases.{by_eq}
use Rattle.op_promise.specs.Promise.{operation_number}

module _ (n : ℕ) where
  pub number_own : {k : ℕ} → n ≡ k → 1 ≤ k → k ≤ 6 → k ≡ operation_number n
  unfolding operation_number
  number_own e l m = rw (ne_eqb n 0 (λ z. omega arith)) (omega arith)

  pub number_else : (n ≡ 1 → ⊥) → (n ≡ 2 → ⊥) → (n ≡ 3 → ⊥) → (n ≡ 4 → ⊥) → (n ≡ 5 → ⊥) → 6 ≡ operation_number n
  unfolding operation_number
  number_else a b c d f =
      by_eq n 0 (λ z e. rw e) (λ z e. rw e (let l : 2 ≤ n = omega arith in let m : 4 ≤ n = omega arith in let k : 6 ≤ n = omega arith in sixth k))
    where
      sixth : 6 ≤ n → 6 ≡ min n 6
      sixth k = omega arith

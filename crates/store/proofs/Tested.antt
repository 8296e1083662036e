-- The tests of Size and Save on words that hold a book are the tests of the record.
-- The book's length is the count and two more.
use Prim.Native.Nat.{ℕ, ◌+◌, ◌-◌, ◌≤◌}
use mathlib.Core.Path.{◌≡◌, refl, ap, ◌∙◌}
use mathlib.Core.List.{List}
use native.Mathlib.Omega.{arith}
use lib.ListN.{length}
use Rattle.family.specs.Family.{Family}
use Rattle.store.specs.Tests.{tests_of}
use Rattle.store.specs.Scratch.{scratch_tests}
use Rattle.store.proofs.Testing.{tests_clear}

pub count_is : (B : List Family) {n : ℕ} → length B ≡ n + 2 → length B - 2 ≡ n
count_is B e = omega arith

module _ (B : List Family) (n p words : ℕ) (size : length B ≡ n + 2) where
  pub scratch_number : scratch_tests B p words ≡ tests_of n p 0 0 words n
  unfolding scratch_tests
  scratch_number = ap (λ k. tests_of k p 0 0 words k) (count_is B size)

  pub tests_passed : p ≤ n + 1 → n ≤ words → scratch_tests B p words ≡ 0
  tests_passed l m = scratch_number ∙ tests_clear n p 0 0 words n l (omega arith) refl m

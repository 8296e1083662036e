-- Both entries give one answer where neither refuses for want of scratch.
-- The need is all that differs between them, and no test but that of the scratch goes by it.
use Prim.Native.Nat.{ℕ, ◌+◌, ◌-◌}
use mathlib.Core.Path.{◌≡◌, sym, ap, ◌∙◌}
use mathlib.Core.Bool.{cond}
use mathlib.Core.List.{List}
use native.Mathlib.Omega.{arith}
use lib.Dec.{eqb, ltb}
use lib.ListN.{length}
use borrow.Author.Tests.{le-ltb}
use Rattle.words.proofs.Cases.{by_test}
use Rattle.words.specs.Words.{most}
use Rattle.family.specs.Family.{Family, size}
use Rattle.family.specs.Book.{at}
use Rattle.store.specs.Tests.{tests_of}
use Rattle.query_size.specs.Promise.{SizeGiven, SizeEntry, need_of, size_tests, size_refusal, size_answer}

-- with scratch enough only the handle can be refused
tests_alike : (entry : SizeEntry) (B : List Family) (p words : ℕ) → (size_refusal entry B p words ≡ 7 → ⊥) → size_tests entry B p words ≡ cond (ltb (length B - 2 + 1) p) 4 0
unfolding size_refusal size_tests tests_of
tests_alike entry B p words enough =
    by_test (ltb (length B - 2 + 1) p) (λ a. rw a)
    (λ a. rw (a, le-ltb (length B - 2 + 1) 0 (omega arith))
    (by_test (ltb words (need_of entry B p)) (λ s. absurd (enough (rw (a, le-ltb (length B - 2 + 1) 0 (omega arith), s)))) (λ s. rw s)))

pub entries_agree : (entry other : SizeEntry) (B : List Family) (p words more : ℕ) → (size_refusal entry B p words ≡ 7 → ⊥) → (size_refusal other B p more ≡ 7 → ⊥)
    → size_answer entry B p words ≡ size_answer other B p more
unfolding size_answer size_refusal
entries_agree entry other B p words more enough its = ap given (tests_alike entry B p words enough ∙ sym (tests_alike other B p more its))
  where
    given : ℕ → SizeGiven
    given n =
        let refusal = cond (eqb n 0) (cond (ltb most (size (at B p))) 6 0) n in
        record { refusal = refusal; size = cond (eqb refusal 0) (size (at B p)) 0 }

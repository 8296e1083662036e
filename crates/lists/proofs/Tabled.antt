-- The book's answers are refused by the table of specs/Table.
-- Both go by the same tests in document 01's order; each case of the tests is one line.
use Prim.Native.Nat.{ℕ, ◌+◌, ◌*◌}
use mathlib.Core.Path.{◌≡◌, refl, sym, ◌∙◌}
use mathlib.Core.Bool.{Bool, true, cond, not}
use mathlib.Core.List.{List}
use mathlib.Core.Option.{Option, none, some}
use lib.Dec.{eqb, ltb}
use lib.ListN.{length}
use native.Mathlib.Omega.{arith}
use borrow.Author.Tests.{le-ltb}
use Rattle.words.proofs.Cases.{by_test}
use Rattle.family.specs.Family.{Family, size, top, largest_item}
use Rattle.family.specs.Book.{at}
use Rattle.family.specs.Parity.{parity}
use Rattle.family.specs.File.{file_of, family_of}
use Rattle.store.specs.Operations.{named}
use Rattle.store.specs.Placing.{too_large, place_answer}
use Rattle.store.specs.Scratch.{scratch_tests}
use Rattle.store.specs.Tests.{is_item, tests_of}
use Rattle.op_promise.specs.Promise.{operation_refusal, number_of}
use Rattle.op_parity.specs.Promise.{parity_refusal}
use Rattle.words.specs.Words.{most}
use Rattle.query_size.specs.Promise.{need_of, size_tests, size_refusal, size_answer}
use Rattle.query_has.specs.Promise.{has_answer, has_refusal}
use Rattle.query_weight.specs.Promise.{sum_by, weight_tests, weight_refusal, weight_answer}
use Rattle.file_save.specs.Promise.{save_refusal}
use Rattle.file_load.specs.Promise.{file_number, found_family, load_refusal, load_family}
use Rattle.op_promise.specs.declared.Operation.{Operation}
use Rattle.lists.specs.Calls.{Call, Operate, Parity, Size, Has, Weigh, Save, Load, Audit}
use Rattle.lists.specs.Acts.{count}
use Rattle.lists.specs.Books.{Bounds, book_answer}
use Rattle.lists.specs.Table.{above, on_item, file_refusal, refusal_of}

module _ (bounds : Bounds) (B : List Family) where
  place_refusal : (n : ℕ) (F : Family) → (place_answer bounds.capacity B n F).refusal ≡ cond (eqb n 0) (cond (too_large bounds.capacity B F) 5 0) n
  unfolding place_answer
  place_refusal n F = by_test (eqb n 0) (λ t. rw t (by_test (too_large bounds.capacity B F) (λ f. rw f) (λ f. rw f))) (λ t. rw t)

  operate_table : (op : Operation) (p q : ℕ) → refusal_of bounds B (Operate op p q)
      ≡ cond (eqb (operation_refusal (number_of op) bounds.limit (count B) p q) 0) (cond (too_large bounds.capacity B (named (number_of op) B p q)) 5 0) (operation_refusal (number_of op) bounds.limit (count B) p q)
  unfolding refusal_of operation_refusal tests_of
  operate_table op p q =
      by_test (on_item op)
      (λ t. rw t (by_test (above B p) (λ a. rw a) (λ a. rw (a, le-ltb (count B + 1) 0 (omega arith)) (by_test (is_item bounds.limit q) (λ i. rw i) (λ i. rw i)))))
      (λ t. rw t (by_test (above B p) (λ a. rw a) (λ a. rw a (by_test (above B q) (λ b. rw b) (λ b. rw b)))))

  load_table : (file : List ℕ) (scratch : ℕ) → refusal_of bounds B (Load file scratch)
      ≡ cond (eqb (load_refusal bounds.limit file scratch) 0) (cond (too_large bounds.capacity B (load_family file)) 5 0) (load_refusal bounds.limit file scratch)
  unfolding refusal_of load_refusal load_family
  load_table file scratch =
      by_test (ltb scratch (6 * length file)) (λ s. rw s) (λ s. rw s (by_file (family_of largest_item file)))
    where
      by_file : (o : Option Family) → file_refusal bounds B o ≡ cond (eqb (file_number bounds.limit o) 0) (cond (too_large bounds.capacity B (found_family o)) 5 0) (file_number bounds.limit o)
      by_file none = refl
      by_file (some F) = by_test (ltb bounds.limit (top F)) (λ t. rw t) (λ t. rw t)

  -- a call of one handle: after it the call's own test, which may refuse with 11, that of the scratch, and one more
  handle_table : (p : ℕ) (own : Bool) (scratch need : ℕ) (last : Bool) (m : ℕ)
      → cond (eqb (tests_of (count B) p 0 (cond own 0 11) scratch need) 0) (cond last m 0) (tests_of (count B) p 0 (cond own 0 11) scratch need)
      ≡ cond (above B p) 4 (cond (not own) 11 (cond (ltb scratch need) 7 (cond last m 0)))
  unfolding tests_of
  handle_table p own scratch need last m =
      by_test (above B p) (λ a. rw a)
      (λ a. rw (a, le-ltb (count B + 1) 0 (omega arith)) (by_test own (λ o. rw o (by_test (ltb scratch need) (λ s. rw s) (λ s. rw s))) (λ o. rw o)))

  pub tabled : (call : Call) → (book_answer bounds B call).refusal ≡ refusal_of bounds B call
  unfolding book_answer refusal_of size_answer size_refusal size_tests weight_answer weight_refusal weight_tests save_refusal scratch_tests has_answer has_refusal tests_of
  tabled (Operate op p q) = place_refusal (operation_refusal (number_of op) bounds.limit (count B) p q) (named (number_of op) B p q) ∙ sym (operate_table op p q)
  tabled (Parity even p) =
      place_refusal (parity_refusal (count B) p) (parity even (at B p))
      ∙ handle_table p true 0 0 (too_large bounds.capacity B (parity even (at B p))) 5
  tabled (Size entry p scratch) = handle_table p true scratch (need_of entry B p) (ltb most (size (at B p))) 6
  tabled (Has p combination) = by_test (above B p) (λ a. rw a) (λ a. rw (a, le-ltb (count B + 1) 0 (omega arith)))
  tabled (Weigh way p weights scratch) = handle_table p (eqb (length weights) largest_item) scratch (3 * count B) (ltb most (sum_by way weights (at B p))) 6
  tabled (Save p scratch output) = handle_table p true scratch (count B) (ltb output (length (file_of (at B p)))) 8
  tabled (Load file scratch) = place_refusal (load_refusal bounds.limit file scratch) (load_family file) ∙ sym (load_table file scratch)
  tabled Audit = refl

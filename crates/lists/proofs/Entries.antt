-- Sizes of one family by both entries, over lists of calls: the statement is `OneSizeClaim` of specs/Entries.
-- A size that was given is that of the family which its handle means in every later book, and with scratch enough nothing
-- in an answer goes by the entry.
use Prim.Native.Nat.{ℕ}
use mathlib.Core.Path.{◌≡◌, refl, sym, ap, ◌∙◌}
use mathlib.Core.List.{List}
use Rattle.family.specs.Family.{Family, size}
use Rattle.family.specs.Book.{start}
use Rattle.store.proofs.Testing.{passes}
use Rattle.query_size.specs.Promise.{SizeEntry, need_of, size_tests, size_refusal, size_answer}
use Rattle.query_size.proofs.Agreeing.{entries_agree}
use Rattle.lists.specs.Calls.{Size, Answer}
use Rattle.lists.specs.Acts.{size_returns, count}
use Rattle.lists.specs.Books.{Bounds, book_answer, book_from}
use Rattle.lists.specs.Runs.{bounds_of}
use Rattle.lists.specs.Entries.{OneSizeClaim}
use Rattle.lists.proofs.Steps.{step}
use Rattle.lists.proofs.Reaching.{reached}
use Rattle.lists.proofs.Answering.{Asks, told_after}

size_asks : (bounds : Bounds) (entry : SizeEntry) (p scratch : ℕ) → Asks bounds (Size entry p scratch) p size
unfolding book_answer size_answer size_refusal size_tests
size_asks bounds entry p scratch =
    record { tests = λ B. size_tests entry B p scratch; held = λ B e. (passes (count B) p 0 0 scratch (need_of entry B p) e).first; told = λ B. refl }

-- an answer that is not 7
enough : (entry : SizeEntry) (B : List Family) (p scratch : ℕ) {answer : Answer} → answer ≡ size_returns (size_answer entry B p scratch) → (answer.refusal ≡ 7 → ⊥)
    → size_refusal entry B p scratch ≡ 7 → ⊥
unfolding size_answer
enough entry B p scratch e not d = not (ap (λ a. a.refusal) e ∙ d)

pub one_size : OneSizeClaim
unfolding book_answer
one_size opening calls answers x run =
    let R = reached run in
    let bounds = bounds_of opening in
    let C = book_from bounds start calls in
    record {
      same = λ entry other p scratch more size its first second.
          told_after (size_asks bounds entry p scratch) first R.answered ∙ sym (told_after (size_asks bounds other p more) second R.answered);
      alike = λ entry other p scratch more s t not nor.
          let a = (step R.inv s).answer_is in
          let b = (step R.inv t).answer_is in
          a ∙ ap size_returns (entries_agree entry other C p scratch more (enough entry C p scratch a not) (enough other C p more b nor)) ∙ sym b;
    }

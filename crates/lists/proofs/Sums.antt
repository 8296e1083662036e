-- Sums of weights of one family by both ways, over lists of calls: the statement is `OneSumClaim` of specs/Sums.
-- A sum that was given is that of the family which its handle means in every later book, and for every family both ways
-- of adding come to one number.
use Prim.Native.Nat.{ℕ, ◌*◌}
use mathlib.Core.Path.{refl, sym, ap, ◌∙◌}
use mathlib.Core.List.{List}
use lib.ListN.{length}
use Rattle.family.specs.Book.{start, at}
use Rattle.store.proofs.Testing.{passes}
use Rattle.query_weight.specs.Promise.{Way, sum_by, weights_test, weight_tests, weight_refusal, weight_answer}
use Rattle.query_weight.proofs.Agreeing.{ways_agree, answers_agree}
use Rattle.lists.specs.Calls.{Weigh}
use Rattle.lists.specs.Acts.{weight_returns, count}
use Rattle.lists.specs.Books.{Bounds, book_answer, book_from}
use Rattle.lists.specs.Runs.{bounds_of}
use Rattle.lists.specs.Sums.{OneSumClaim}
use Rattle.lists.proofs.Steps.{step}
use Rattle.lists.proofs.Reaching.{reached}
use Rattle.lists.proofs.Answering.{Asks, told_after}

weigh_asks : (bounds : Bounds) (way : Way) (p : ℕ) (weights : List ℕ) (scratch : ℕ) → Asks bounds (Weigh way p weights scratch) p (λ F. sum_by way weights F)
unfolding book_answer weight_answer weight_refusal weight_tests
weigh_asks bounds way p weights scratch =
    record {
      tests = λ B. weight_tests B p (length weights) scratch;
      held = λ B e. (passes (count B) p 0 (weights_test (length weights)) scratch (3 * count B) e).first;
      told = λ B. refl;
    }

pub one_sum : OneSumClaim
unfolding book_answer
one_sum opening calls answers x run =
    let R = reached run in
    let bounds = bounds_of opening in
    let C = book_from bounds start calls in
    record {
      same = λ way other p weights scratch more sum its first second.
          told_after (weigh_asks bounds way p weights scratch) first R.answered ∙ ways_agree way other weights (at C p)
          ∙ sym (told_after (weigh_asks bounds other p weights more) second R.answered);
      alike = λ way other p weights scratch s t. (step R.inv s).answer_is ∙ ap weight_returns (answers_agree way other C p weights scratch) ∙ sym (step R.inv t).answer_is;
    }

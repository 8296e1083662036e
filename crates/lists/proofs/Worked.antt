-- Document 01's worked store: the starred lines as one list, over the definitions and on every store.
-- The definitions give it by computation alone, and a store has the words of its book.
use Prim.Native.Nat.{◌*◌, ◌≤◌}
use mathlib.Core.Path.{◌≡◌, refl, sym, ap, ◌∙◌}
use mathlib.Core.Bool.{decide}
use mathlib.Core.List.{List, [], ◌∷◌}
use native.Mathlib.Decide.{ℕ_discrete}
use native.Mathlib.Omega.{arith}
use lib.ListN.{length, take}
use Rattle.family.specs.Family.{Family, empty, base, node}
use Rattle.family.specs.Operation.{combine}
use Rattle.family.specs.Book.{same, add}
use Rattle.family.specs.Record.{map_of, record_bytes}
use Rattle.family.specs.File.{file_of_book}
use Rattle.table.specs.Start.{start_of}
use Rattle.table.specs.Probe.{scan, after}
use Rattle.table.specs.Entered.{first_free, entered, start_at}
use Rattle.store.specs.Words.{words_of, lookup_of}
use Rattle.store.specs.Operations.{named, restrict, rule}
use Rattle.store.specs.Placing.{too_large, cost_of, place_answer}
use Rattle.store.specs.Scratch.{scratch_tests}
use Rattle.store.specs.Inner.{Holds}
use Rattle.store.proofs.Encoding.{encoded, looked_up}
use Rattle.store.specs.Tests.{is_item, tests_of}
use Rattle.op_promise.specs.Promise.{operation_refusal}
use Rattle.file_save.specs.Promise.{save_refusal, save_answer}
use Rattle.lists.specs.Calls.{Answer}
use Rattle.lists.specs.Books.{book_answer, book_effect, answers_of, book_of_calls}
use Rattle.lists.specs.Runs.{State}
use Rattle.lists.specs.Worked.{worked, worked_bounds, worked_answers, worked_words, worked_lookup, WorkedList, WorkedStore, WorkedClaim}
use Rattle.lists.proofs.Invariant.{holds}
use Rattle.lists.proofs.Reaching.{Reached, reached, as_book}

-- {{1}}, {{2}}, {{1}, {2}}, and what Change makes of it
abbrev book : List Family
book = empty ∷ base ∷ node 1 empty base ∷ node 2 empty base ∷ node 2 (node 1 empty base) base ∷ node 2 base (node 1 empty base) ∷ []

book_is : book_of_calls worked_bounds worked ≡ book
unfolding book_of_calls book_effect operation_refusal tests_of too_large cost_of is_item named restrict rule combine same decide ℕ_discrete add file_of_book record_bytes map_of
book_is = refl

answers_are : answers_of worked_bounds worked ≡ worked_answers
unfolding answers_of book_answer book_effect operation_refusal tests_of place_answer save_answer save_refusal scratch_tests too_large cost_of is_item named restrict rule combine same decide ℕ_discrete add file_of_book record_bytes map_of
answers_are = refl

words_are : words_of book ≡ worked_words
unfolding words_of same decide ℕ_discrete
words_are = refl

slots_are : entered (start_at worked_words 7) 7 4 ≡ worked_lookup
unfolding entered start_at start_of first_free scan after
slots_are = refl

lookup_is : lookup_of 7 book ≡ worked_lookup
unfolding lookup_of
lookup_is = ap (λ w. entered (start_at w 7) 7 4) words_are ∙ slots_are

slot_is : start_of 1 0 1 7 ≡ 1
unfolding start_of
slot_is = refl

pub worked_list : WorkedList
worked_list =
    record {
      capacity_is = refl;
      answers_are = answers_are;
      count_is = ap length book_is;
      words_are = ap words_of book_is ∙ words_are;
      sum_is = refl;
      slot_is = slot_is;
      lookup_is = ap (λ B. lookup_of 7 B) book_is ∙ lookup_is;
    }

-- a store that came to the book has its words
store_of : {answers : List Answer} {x : State} → Reached worked_bounds 7 worked answers x → WorkedStore answers x
unfolding book_of_calls
store_of {answers} {x} R =
    let H : Holds 512 book x.store.count x.nodes x.lookup = rw book_is at (holds R.inv) in
    let four : x.store.count ≡ 4 = omega (arith, H.size) in
    let fits : 3 * x.store.count ≤ length x.nodes = omega (arith, R.inv.sound.capacity_is, R.inv.sound.within) in
    record {
      answers_are = as_book R ∙ answers_are;
      count_is = four;
      words_are = ap (λ k. take (3 * k) x.nodes) (sym four) ∙ sym (encoded H fits) ∙ words_are;
      lookup_is = sym (looked_up H fits) ∙ ap (λ k. lookup_of k book) R.inv.slots_are ∙ lookup_is;
    }

pub worked_store : WorkedClaim
worked_store o answers x n l m run = store_of (rw (n, l, m) at (reached run))

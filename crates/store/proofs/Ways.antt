-- The ways that a placing call has on a sound store: refused before it places, no room, and placed.
-- The definition tests for them in this order.
use Prim.Native.Nat.{ℕ, ◌-◌, ◌≤◌}
use mathlib.Core.Path.{◌≡◌}
use mathlib.Core.Bool.{true, false}
use mathlib.Core.List.{List}
use native.Mathlib.Omega.{arith}
use lib.ListN.{length}
use borrow.Author.Tests.{ne_eqb}
use Rattle.words.proofs.Cases.{by_test, by_eq}
use Rattle.family.specs.Family.{Family}
use Rattle.family.specs.Book.{number, place}
use Rattle.store.specs.declared.record.Store.{Store}
use Rattle.store.specs.Capacity.{counting}
use Rattle.store.specs.Refusals.{refused_by}
use Rattle.store.specs.Words.{book_of, nodes_with, lookup_of}
use Rattle.store.specs.Placing.{cost_of, too_large, place_answer, place_book}
use Rattle.store.specs.Promise.{placing}

module _ (n : ℕ) (F : Family) (s : Store) (nodes lookup : List ℕ) where
  pub way_refused : (n ≡ 0 → ⊥) → placing n F s nodes lookup ≡ record { given = refused_by n; store = s; nodes = nodes; lookup = lookup }
  unfolding placing place_answer
  way_refused d = rw (ne_eqb n 0 d, ne_eqb n 0 d)

  pub way_full : n ≡ 0 → too_large s.capacity (book_of nodes s.count) F ≡ true → placing n F s nodes lookup ≡ record { given = refused_by 5; store = s; nodes = nodes; lookup = lookup }
  unfolding placing place_answer
  way_full e t = rw (e, t)

  pub way_placed : n ≡ 0 → too_large s.capacity (book_of nodes s.count) F ≡ false
      → placing n F s nodes lookup ≡ record {
        given = record { refusal = 0; handle = number (place (book_of nodes s.count) F) F; added = cost_of (book_of nodes s.count) F };
        store = counting s (length (place (book_of nodes s.count) F) - 2);
        nodes = nodes_with s.capacity (place (book_of nodes s.count) F) nodes;
        lookup = lookup_of (length lookup) (place (book_of nodes s.count) F);
      }
  unfolding placing place_answer place_book
  way_placed e t = rw (e, t)

  -- each way adds at most the parts that are not held
  pub added_cost : (placing n F s nodes lookup).given.added ≤ cost_of (book_of nodes s.count) F
  added_cost =
      by_eq n 0
      (λ e d. by_test (too_large s.capacity (book_of nodes s.count) F) (λ t. rw (way_full e t) (omega arith)) (λ t. rw (way_placed e t) (omega arith)))
      (λ e d. rw (way_refused e) (omega arith))

-- A call that places, on a sound store: it leaves what the definition `called` says of the book that the words hold.
-- Its promise has two ways here, no room and placed; the words of the placed book mean that book.
use Prim.Native.Nat.{ℕ, ◌+◌, ◌≤◌, ◌<◌}
use mathlib.Core.Path.{◌≡◌, refl, ap, ◌∙◌}
use mathlib.Core.Bool.{true, false}
use mathlib.Core.List.{List}
use native.Mathlib.Omega.{arith}
use lib.ListN.{length}
use borrow.Author.Tests.{lt-ltb, le-ltb, le-leb}
use Rattle.words.proofs.Cases.{by_test, clash}
use Rattle.family.specs.Family.{Family, Within, largest_item}
use Rattle.family.specs.Operation.{change, combine}
use Rattle.family.specs.Book.{at, place, Book}
use Rattle.family.proofs.Books.{held_at}
use Rattle.family.proofs.Placing.{book_place}
use Rattle.family.proofs.Restrict.{within_change}
use Rattle.store.specs.declared.record.Store.{Store}
use Rattle.store.specs.declared.record.Placement.{Placement}
use Rattle.store.specs.declared.record.Answered.{Answered}
use Rattle.store.specs.Words.{book_of}
use Rattle.store.specs.Operations.{restrict, rule, named}
use Rattle.store.specs.Sound.{Sound}
use Rattle.store.specs.Placing.{cost_of, too_large}
use Rattle.store.specs.Promise.{PlaceCall}
use Rattle.store.proofs.Naming.{named_families, families_within}
use Rattle.store.proofs.Decoding.{sound_holds}
use Rattle.store.proofs.Recovering.{book_of_words}
use Rattle.store.proofs.Ways.{way_full, way_placed}
use Rattle.store.specs.Tests.{is_item, tests_of}
use Rattle.op_promise.specs.Promise.{operation_refusal, OperationCall}
use Rattle.report_add.specs.Promise.{called, After}

-- the two ways that a call has which nothing refuses before it places
module _ (F : Family) (s : Store) (nodes lookup : List ℕ) where
  placed_full : too_large s.capacity (book_of nodes s.count) F ≡ true → called s.capacity (book_of nodes s.count) F ≡ record { full = true; book = book_of nodes s.count; family = F; cost = 0 }
  unfolding called
  placed_full t = rw t

  placed_new : too_large s.capacity (book_of nodes s.count) F ≡ false
      → called s.capacity (book_of nodes s.count) F ≡ record { full = false; book = place (book_of nodes s.count) F; family = F; cost = cost_of (book_of nodes s.count) F }
  unfolding called
  placed_new t = rw t

-- handles that are held and an item pass the tests
item_taken : (limit count p v : ℕ) → p ≤ count + 1 → 0 < v → v ≤ limit → operation_refusal 3 limit count p v ≡ 0
unfolding operation_refusal tests_of is_item
item_taken limit count p v lp n l = rw (le-ltb (count + 1) p lp, le-ltb (count + 1) 0 (omega arith), lt-ltb 0 v n, le-leb v limit l)

handles_taken : (op limit count p q : ℕ) → 4 ≤ op → p ≤ count + 1 → q ≤ count + 1 → operation_refusal op limit count p q ≡ 0
unfolding operation_refusal tests_of
handles_taken op limit count p q n lp lq = rw (le-ltb op 4 n, le-ltb (count + 1) p lp, le-ltb (count + 1) q lq)

module _ {s : Store} {nodes lookup cache : List ℕ} (S : Sound s nodes lookup cache) where
  book : Book s.limit (book_of nodes s.count)
  book = (sound_holds S).book

  pub handle_inside : (p : ℕ) → p ≤ s.count + 1 → p < length (book_of nodes s.count)
  handle_inside p l = omega (arith, (sound_holds S).size)

  pub handle_within : (p : ℕ) → p ≤ s.count + 1 → Within s.limit (at (book_of nodes s.count) p)
  handle_within p l = book.within (at (book_of nodes s.count) p) (held_at (book_of nodes s.count) book p (handle_inside p l))

  module _ {F : Family} {r : Answered Placement} {nodes' lookup' cache' : List ℕ} (i : s.limit ≡ largest_item) (w : Within s.limit F) (P : PlaceCall 0 F s nodes lookup cache r nodes' lookup' cache') where
    full_after : too_large s.capacity (book_of nodes s.count) F ≡ true → After s.capacity r nodes' lookup' cache' (record { full = true; book = book_of nodes s.count; family = F; cost = 0 })
    full_after t =
        let L = (P.on_sound S).leaves_is ∙ way_full 0 F s nodes lookup refl t in
        record {
          sound = (P.on_sound S).sound;
          capacity_is = P.capacity;
          limit_is = P.limit ∙ i;
          book_is = ap (λ l. book_of l.nodes l.store.count) L;
          answer_is = ap (λ l. l.given) L;
          held = λ e. clash refl e;
        }

    new_after : too_large s.capacity (book_of nodes s.count) F ≡ false → After s.capacity r nodes' lookup' cache' (record { full = false; book = place (book_of nodes s.count) F; family = F; cost = cost_of (book_of nodes s.count) F })
    new_after t =
        let L = (P.on_sound S).leaves_is ∙ way_placed 0 F s nodes lookup refl t in
        let k = book_place (book_of nodes s.count) F book w in
        record {
          sound = (P.on_sound S).sound;
          capacity_is = P.capacity;
          limit_is = P.limit ∙ i;
          book_is = ap (λ l. book_of l.nodes l.store.count) L ∙ book_of_words (place (book_of nodes s.count) F) k.0 s.capacity nodes;
          answer_is = ap (λ l. l.given) L;
          held = λ e. k.1;
        }

    pub placed_after : After s.capacity r nodes' lookup' cache' (called s.capacity (book_of nodes s.count) F)
    placed_after =
        by_test (too_large s.capacity (book_of nodes s.count) F)
        (λ t. rw (placed_full F s nodes lookup t) (full_after t))
        (λ t. rw (placed_new F s nodes lookup t) (new_after t))

  module _ {r : Answered Placement} {nodes' lookup' cache' : List ℕ} (i : s.limit ≡ largest_item) (p : ℕ) (lp : p ≤ s.count + 1) where
    -- Change
    pub change_after : (v : ℕ) → 0 < v → v ≤ largest_item → OperationCall 3 p v s nodes lookup cache r nodes' lookup' cache'
        → After s.capacity r nodes' lookup' cache' (called s.capacity (book_of nodes s.count) (change v (at (book_of nodes s.count) p)))
    unfolding named restrict
    change_after v n l P =
        let h : v ≤ s.limit = omega arith in
        placed_after i (within_change v _ n h (handle_within p lp)) (rw (item_taken s.limit s.count p v lp n h) at P)

    -- Union, Intsec and Diff
    pub combine_after : (op : ℕ) → 4 ≤ op → op ≤ 6 → (q : ℕ) → q ≤ s.count + 1 → OperationCall op p q s nodes lookup cache r nodes' lookup' cache'
        → After s.capacity r nodes' lookup' cache' (called s.capacity (book_of nodes s.count) (combine (rule op) (at (book_of nodes s.count) p) (at (book_of nodes s.count) q)))
    combine_after op n m q lq P =
        placed_after i (families_within op _ _ (handle_within p lp) (handle_within q lq))
        (rw (handles_taken op s.limit s.count p q n lp lq, named_families op (book_of nodes s.count) p q n m) at P)

-- The words that the definitions give for a book are a sound store: they hold the book, and the rest is blank.
-- Each family's sides stand in the book before it, so a node's words name them by smaller numbers.
use Prim.Native.Nat.{ℕ, ◌+◌, ◌*◌, ◌-◌, ◌≤◌, ◌<◌}
use mathlib.Core.Path.{◌≡◌, refl, sym, ap, ◌∙◌}
use mathlib.Core.List.{List, ◌++◌}
use native.Mathlib.Omega.{arith}
use lib.ListN.{length, get_or, drop, replicate, length-append, length-drop, get_or-append}
use lib.Seq.{get_or-append-add}
use Rattle.words.proofs.Zeroed.{zeros_length, zero_get_d}
use Rattle.family.specs.Family.{Family, node, top, without_side, with_side, largest_item}
use Rattle.family.specs.Book.{at, number, Book}
use Rattle.family.proofs.Books.{number_at, is_node, two_long}
use Rattle.table.specs.Entered.{start_at}
use Rattle.table.proofs.Filled.{length_entered}
use Rattle.store.specs.Capacity.{capacity_of}
use Rattle.store.specs.Words.{words_of, nodes_with, lookup_of}
use Rattle.store.specs.Cache.{True}
use Rattle.store.specs.Sound.{Sound}
use Rattle.store.specs.Inner.{Entry, Holds}
use Rattle.store.proofs.Encoding.{words_length}
use Rattle.store.proofs.Put.{entered_same}
use Rattle.store.proofs.Recovering.{words_has}
use Rattle.store.proofs.Sounds.{holds_sound}

-- the words of a node, and its family
module _ {limit : ℕ} (C : List Family) (book : Book limit C) (rest : List ℕ) where
  entry : (k : ℕ) → k < length C - 2 → Entry C k (get_or (words_of C ++ rest) (3 * k) 0) (get_or (words_of C ++ rest) (3 * k + 1) 0) (get_or (words_of C ++ rest) (3 * k + 2) 0)
  entry k l =
      let H = words_has C book rest k (omega arith) in
      rw (H.item_is, H.zero_is, H.one_is) (of_family (at C (2 + k)) refl)
    where
      sides : (i : ℕ) (a b : Family) → at C (2 + k) ≡ node i a b → Entry C k i (number C a) (number C b)
      sides i a b e =
          let here : number C (node i a b) ≡ 2 + k = rw e at (book.unique (2 + k) (omega arith)) in
          let below = book.below i a b (omega arith) in
          record {
            is = ap (λ j. at C j) (omega arith) ∙ e ∙ rw (number_at C a (omega arith), number_at C b (omega arith));
            zero_before = omega arith;
            one_before = omega arith;
          }

      of_family : (F : Family) → at C (2 + k) ≡ F → Entry C k (top F) (number C (without_side F)) (number C (with_side F))
      of_family F e =
          let q = is_node C book k (omega arith) F (ap (λ j. at C j) (omega arith) ∙ e) in
          rw q.3 (sides q.0 q.1 q.2 (e ∙ q.3))

get_d_past : (l r : List ℕ) (k : ℕ) → length l ≤ k → get_or (l ++ r) k 0 ≡ get_or r (k - length l) 0
get_d_past l r k h = let e : length l + (k - length l) ≡ k = omega arith in ap (λ j. get_or (l ++ r) j 0) (sym e) ∙ get_or-append-add l r (k - length l) 0

-- the book's words in a store of some capacity, and its lookup of so many slots
module _ {limit : ℕ} (low : limit ≤ largest_item) (C : List Family) (book : Book limit C) (capacity : ℕ) (nodes : List ℕ) (slots : ℕ) where
  word_below : (k : ℕ) → k < 3 * (length C - 2) → get_or (nodes_with capacity C nodes) k 0 ≡ get_or (words_of C) k 0
  unfolding nodes_with
  word_below k l = get_or-append (words_of C) _ 0 k (omega (arith, words_length C))

  laid_holds : Holds limit C (length C - 2) (nodes_with capacity C nodes) (lookup_of slots C)
  unfolding nodes_with lookup_of
  laid_holds =
      record {
        limit_low = low;
        book = book;
        size = omega (arith, two_long C book);
        each = entry C book (replicate (3 * capacity - length (words_of C)) 0 ++ drop (3 * capacity) nodes);
        lookup_is = rw (length_entered (start_at (words_of C) slots) slots (length C - 2)) (entered_same (words_of C) (nodes_with capacity C nodes) slots (length C - 2) word_below);
      }

  pub looked_long : length (lookup_of slots C) ≡ slots
  unfolding lookup_of
  looked_long = length_entered (start_at (words_of C) slots) slots (length C - 2)

  module _ (fits : length C - 2 ≤ capacity) (room : 3 * capacity ≤ length nodes) where
    pub laid_long : length (nodes_with capacity C nodes) ≡ length nodes
    unfolding nodes_with
    laid_long =
        length-append (words_of C) (replicate (3 * capacity - length (words_of C)) 0 ++ drop (3 * capacity) nodes)
        ∙ omega (arith, length-append (replicate (3 * capacity - length (words_of C)) 0) (drop (3 * capacity) nodes), zeros_length (3 * capacity - length (words_of C)), length-drop (3 * capacity) nodes, words_length C)

    blank : (k : ℕ) → 3 * (length C - 2) ≤ k → k < 3 * capacity → get_or (nodes_with capacity C nodes) k 0 ≡ 0
    unfolding nodes_with
    blank k l m =
        get_d_past (words_of C) (replicate (3 * capacity - length (words_of C)) 0 ++ drop (3 * capacity) nodes) k (omega (arith, words_length C))
        ∙ get_or-append (replicate (3 * capacity - length (words_of C)) 0) (drop (3 * capacity) nodes) 0 (k - length (words_of C)) (omega (arith, words_length C, zeros_length (3 * capacity - length (words_of C))))
        ∙ zero_get_d (3 * capacity - length (words_of C)) (k - length (words_of C))

    pub laid_sound : (cache : List ℕ) → 1 ≤ limit → capacity ≡ capacity_of (length nodes) → capacity < slots → True limit C cache
        → Sound (record { capacity = capacity; count = length C - 2; limit = limit }) (nodes_with capacity C nodes) (lookup_of slots C) cache
    laid_sound cache some c l t =
        holds_sound (record { capacity = capacity; count = length C - 2; limit = limit }) some laid_holds (c ∙ ap capacity_of (sym laid_long)) (omega (arith, looked_long)) fits blank t

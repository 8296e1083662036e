-- Each way out of `counted` answers by the parts and the size of the family.
-- The walk from an empty table comes to the family's own book, which has {}, {{}} and each different part once, and no family
-- has more parts than the store has nodes.
use Prim.Native.Nat.{ℕ, ◌+◌, ◌*◌, ◌/◌, ◌≤◌, ◌<◌, min}
use mathlib.Core.Path.{◌≡◌, refl, sym, ap, subst, ◌∙◌}
use mathlib.Core.Logic.{⊎_elim}
use mathlib.Core.List.{List}
use native.Mathlib.Omega.{arith}
use lib.ListN.{length}
use Rattle.std.specs.Prelude.{Option, None, Some, Result, Ok, Err, ok_or}
use borrow.Author.Tests.{lt-ltb, le-ltb}
use Rattle.words.specs.Words.{most}
use Rattle.words.proofs.Cases.{by_eq}
use Rattle.family.specs.Family.{Family, empty, base, size}
use Rattle.family.specs.Book.{start, at, number, Held, place, Book}
use Rattle.family.specs.Parts.{part_count}
use Rattle.family.proofs.Books.{book_start, number_at, held_at, grown_held}
use Rattle.family.proofs.Placing.{book_place, place_held, place_only, parts_held}
use Rattle.family.proofs.Different.{no_longer}
use Rattle.family.proofs.Bound.{own_length}
use Rattle.store.specs.declared.record.Refusal.{Refusal}
use Rattle.store.specs.declared.record.Refusal.TheVariants.{Large, Scratch}
use Rattle.store.specs.Inner.{Holds}
use Rattle.store.proofs.Held.{at_0, at_1, held, within}
use Rattle.query_parts.specs.declared.entries.Parts.{Parts}
use Rattle.query_parts.specs.Inner.{Opened}
use Rattle.query_walk.specs.Inner.{told, size_of, Listed, Came, New, Walked}
use Rattle.query_walk.proofs.Sums.{told_none, told_some}
use Rattle.query_walk.proofs.Listing.{has_item, past_two, list_start, number_told}
use Rattle.query_size_compact.specs.Inner.{counted_of, Counted}

none_empty : part_count empty ≡ 0
unfolding part_count
none_empty = refl

none_base : part_count base ≡ 0
unfolding part_count
none_base = refl

-- what is answered, by the need and the size
module _ (F : Family) (words : ℕ) where
  pub told_short : words < 2 * part_count F → counted_of F words ≡ record { refusal = 7; size = 0 }
  told_short l = rw (lt-ltb words (2 * part_count F) l)

  module _ (l : 2 * part_count F ≤ words) where
    pub told_large : most < size F → counted_of F words ≡ record { refusal = 6; size = 0 }
    told_large m = rw (le-ltb words (2 * part_count F) l, lt-ltb most (size F) m)

    pub told_size : size F ≤ most → counted_of F words ≡ record { refusal = 0; size = size F }
    told_size m = rw (le-ltb words (2 * part_count F) l, le-ltb most (size F) m)

-- a family that the store holds has no more parts than there are nodes, and a node has one
module _ {limit : ℕ} {B : List Family} {count : ℕ} {nodes lookup : List ℕ} (H : Holds limit B count nodes lookup) (p : ℕ) (l : p < count + 2) where
  -- the family's own book
  own_book : Book limit (place start (at B p)) × Held (place start (at B p)) (at B p)
  own_book = book_place start (at B p) (book_start limit) (within H p l)

  parts_fit : part_count (at B p) ≤ count
  parts_fit =
      omega (
        arith,
        H.size,
        own_length (at B p),
        no_longer (place start (at B p)) B
            (λ j k d m e. omega (arith, own_book.0.unique j (omega arith), own_book.0.unique k m, ap (λ X. number (place start (at B p)) X) e))
            (λ k m. also (at (place start (at B p)) k) (held_at (place start (at B p)) own_book.0 k m)),
      )
    where
      also : (G : Family) → Held (place start (at B p)) G → Held B G
      also G q =
          ⊎_elim (λ s. grown_held H.book.begins G s)
          (λ m. subst (λ X. Held X G) (place_held B (at B p) H.book (held H p l)) (parts_held B (at B p) G m)) (place_only start (at B p) G q)

  one_part : 2 ≤ p → 1 ≤ part_count (at B p)
  one_part h =
      let C = place start (at B p) in
      omega (arith, own_length (at B p), own_book.1, past_two own_book.0 (number C (at B p)) (at B p) (has_item H p h l) (number_at C (at B p) own_book.1))

module _ (nodes : List ℕ) (count p : ℕ) (scratch : List ℕ) where
  pub counted_leaf : p < 2 → Counted nodes count p scratch (Ok p) scratch
  counted_leaf l =
      record {
        long = refl;
        is = λ B lookup H. by_eq p 0
            (λ e d. rw (e, at_0 H) (sym (told_size empty (length scratch) (omega (arith, none_empty)) (omega arith))))
            (λ e d. let one : p ≡ 1 = omega arith in rw (one, at_1 H) (sym (told_size base (length scratch) (omega (arith, none_base)) (omega arith))));
      }

  module _ (h : 2 ≤ p) (l : p ≤ count + 1) (places : ℕ) (ep : places ≡ min (length scratch / 2) count) where
    -- more parts than places are more than there are pairs of words
    short_of : {limit : ℕ} {B : List Family} {lookup : List ℕ} → Holds limit B count nodes lookup → places < part_count (at B p) → length scratch < 2 * part_count (at B p)
    short_of H m = omega (arith, parts_fit H p (omega arith))

    pub counted_none : places ≡ 0 → Counted nodes count p scratch (Err Scratch) scratch
    counted_none z = record { long = refl; is = λ B lookup H. sym (told_short (at B p) (length scratch) (short_of H (omega (arith, one_part H p (omega arith) h)))) }

    module _ {t t' : Parts} (K : Opened places scratch t) {r : Option ℕ} (D : Walked New p 513 nodes count t t' r) where
      as_many : t'.places ≡ places
      as_many = D.went.same ∙ K.places_are

      came : {limit : ℕ} {B : List Family} {lookup : List ℕ} → Holds limit B count nodes lookup → Came limit B (place start (at B p)) (at B p) t' r
      came {limit} {B} {lookup} H =
          D.sound B start lookup H (omega arith) (omega (arith, (within H p (omega arith)).low, H.limit_low))
          (λ q. omega (arith, q, past_two (book_start limit) (number start (at B p)) (at B p) (has_item H p h (omega arith)) (number_at start (at B p) q))) (list_start B t K.none_yet)

      pub counted_short : r ≡ None → {words : List ℕ} → length words ≡ length scratch → Counted nodes count p scratch (Err Scratch) words
      counted_short e long =
          record { long = long; is = λ B lookup H. sym (told_short (at B p) (length scratch) (short_of H (omega (arith, (came H).short e, as_many, own_length (at B p))))) }

      module _ {number : ℕ} (some : r ≡ Some number) where
        module _ {limit : ℕ} {B : List Family} {lookup : List ℕ} (H : Holds limit B count nodes lookup) where
          listed : Listed limit B (place start (at B p)) t' × ((number < length (place start (at B p))) × (at (place start (at B p)) number ≡ at B p))
          listed = (came H).listed number some

          enough : 2 * part_count (at B p) ≤ length scratch
          enough = omega (arith, listed.0.long, own_length (at B p), D.went.table.few, as_many)

          told_is : size_of t' number ≡ told (size (at B p))
          told_is = number_told listed.0 number listed.1.0 ∙ ap (λ F. told (size F)) listed.1.1

        pub counted_told : {result : Result ℕ Refusal} (members : Option ℕ) → members ≡ size_of t' number → result ≡ ok_or members Large → {words : List ℕ} → length words ≡ length scratch
            → Counted nodes count p scratch result words
        counted_told None e f long =
            record { long = long; is = λ B lookup H. rw f (sym (told_large (at B p) (length scratch) (enough H) (told_none (size (at B p)) (e ∙ told_is H)))) }
        counted_told (Some m) e f long =
            record {
              long = long;
              is = λ B lookup H.
                  let q = told_some (size (at B p)) m (e ∙ told_is H) in
                  rw (f, q.1) (sym (told_size (at B p) (length scratch) (enough H) q.0));
            }

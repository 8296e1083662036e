-- The book of words: where words hold a book it is the one that the definition reads, and the words of a sound store
-- hold it.
-- By induction on the nodes; in a sound store each node's words extend the book of those before.
use Prim.Native.Nat.{ℕ, zero, suc, ◌+◌, ◌*◌, ◌-◌, ◌≤◌, ◌<◌}
use mathlib.Core.Path.{◌≡◌, refl, sym, ap, ◌∙◌}
use mathlib.Core.List.{List}
use native.Mathlib.Omega.{arith}
use native.Mathlib.Numerals.{add-one}
use lib.ListN.{length, get_or, take}
use lib.Seq.{take-suc, take_all, get_or-take}
use Rattle.family.specs.Family.{Family, empty, node, Within, largest_item}
use Rattle.family.specs.Book.{at, number}
use Rattle.family.proofs.Books.{number_at, book_start}
use Rattle.words.proofs.Cases.{by_lt}
use Rattle.table.specs.Entered.{entered, start_at}
use Rattle.table.proofs.Filled.{length_entered}
use Rattle.store.specs.declared.record.Store.{Store}
use Rattle.store.specs.Words.{book_of}
use Rattle.store.specs.Sound.{Node, Sound}
use Rattle.store.specs.Inner.{Holds}
use Rattle.store.proofs.Held.{top_at_lem, within, positive_one, node_handle, node_has}
use Rattle.store.proofs.Extending.{extended}

module _ {limit : ℕ} {B : List Family} {n : ℕ} {nodes lookup : List ℕ} (H : Holds limit B n nodes lookup) where
  decoded_to : (m : ℕ) → m ≤ n → book_of nodes m ≡ take (m + 2) B
  unfolding book_of
  decoded_to zero l = sym (ap (λ X. take 2 X) H.book.begins.eq)
  decoded_to (suc m) l =
      let E = H.each m (omega arith) in
      let z = get_or nodes (3 * m + 1) 0 in
      let o = get_or nodes (3 * m + 2) 0 in
      let s : suc m + 2 ≡ suc (m + 2) = omega arith in
      rw (decoded_to m (omega arith), get_or-take (m + 2) B z empty E.zero_before, get_or-take (m + 2) B o empty E.one_before, ← E.is, s, take-suc B (m + 2) empty (omega (arith, H.size)))

  -- the book is the one that the words say
  pub decoded : book_of nodes n ≡ B
  decoded = decoded_to n (omega arith) ∙ take_all (n + 2) B (omega (arith, H.size))

-- the words of a sound store hold their book
module _ (limit : ℕ) (limit_low : limit ≤ largest_item) (nodes : List ℕ) (len c : ℕ) (each : (k : ℕ) → k < c → Node limit nodes k (get_or nodes (3 * k) 0) (get_or nodes (3 * k + 1) 0) (get_or nodes (3 * k + 2) 0))
    (apart : (j k : ℕ) → j < k → k < c → get_or nodes (3 * j) 0 ≡ get_or nodes (3 * k) 0 → get_or nodes (3 * j + 1) 0 ≡ get_or nodes (3 * k + 1) 0 → get_or nodes (3 * j + 2) 0 ≡ get_or nodes (3 * k + 2) 0 → ⊥) where
  long : (n : ℕ) → length (entered (start_at nodes len) len n) ≡ len
  long n = length_entered (start_at nodes len) len n

  lookup_long : (n : ℕ) → entered (start_at nodes len) len n ≡ entered (start_at nodes (length (entered (start_at nodes len) len n))) (length (entered (start_at nodes len) len n)) n
  lookup_long n = sym (ap (λ k. entered (start_at nodes k) k n) (long n))

  step : (n : ℕ) → n < c → Holds limit (book_of nodes n) n nodes (entered (start_at nodes len) len n) → Holds limit (book_of nodes (suc n)) (suc n) nodes (entered (start_at nodes len) len (suc n))
  unfolding book_of
  step n l H =
      rw (add-one n) at (extended H i z o (record { item_is = refl; zero_is = refl; one_is = refl }) N.zero_before N.one_before fits lacks (entered (start_at nodes len) len (suc n)) (lookup_long (suc n)))
    where
      B : List Family
      B = book_of nodes n

      i : ℕ
      i = get_or nodes (3 * n) 0

      z : ℕ
      z = get_or nodes (3 * n + 1) 0

      o : ℕ
      o = get_or nodes (3 * n + 2) 0

      N : Node limit nodes n (get_or nodes (3 * n) 0) (get_or nodes (3 * n + 1) 0) (get_or nodes (3 * n + 2) 0)
      N = each n l

      fits : Within limit (node i (at B z) (at B o))
      fits =
          record {
            ordered = (
              omega (arith, N.zero_below, top_at_lem H z N.zero_before),
              omega (arith, N.one_below, top_at_lem H o N.one_before),
              positive_one H o N.one_before N.one_some,
              (within H z N.zero_before).ordered,
              (within H o N.one_before).ordered,
            );
            low = N.item_limit;
          }

      lacks : length B ≤ number B (node i (at B z) (at B o))
      lacks =
          by_lt (number B (node i (at B z) (at B o))) (length B)
          (λ h e. absurd (clash (number B (node i (at B z) (at B o))) h (number_at B (node i (at B z) (at B o)) h)))
          (λ h e. h)
        where
          clash : (h : ℕ) → h < length B → at B h ≡ node i (at B z) (at B o) → ⊥
          clash h m e =
              let g = node_handle H h i (at B z) (at B o) (omega (arith, H.size)) e in
              let s = H.size in
              let w = node_has H (h - 2) i z o (omega arith) N.zero_before N.one_before (ap (λ k. at B k) (omega arith) ∙ e) in
              apart (h - 2) n (omega arith) l w.item_is w.zero_is w.one_is

  holds_to : (n : ℕ) → n ≤ c → Holds limit (book_of nodes n) n nodes (entered (start_at nodes len) len n)
  unfolding book_of
  holds_to zero l = record { limit_low = limit_low; book = book_start limit; size = refl; each = λ k h. absurd (omega arith); lookup_is = lookup_long 0 }
  holds_to (suc n) l = step n l (holds_to n (omega arith))

pub sound_holds : {s : Store} {nodes lookup cache : List ℕ} → Sound s nodes lookup cache → Holds s.limit (book_of nodes s.count) s.count nodes lookup
sound_holds {s} {nodes} {lookup} S =
    rw S.lookup_is (holds_to s.limit S.limit_low nodes (length lookup) s.count S.each S.apart s.count (omega arith))

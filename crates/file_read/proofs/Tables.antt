-- Each way out of `read_table`: the records are read into an empty local table, and the walk from the last part
-- tells whether they stand in placing order.
-- Then the local book is the last family's own book, by the law of that walk.
use Prim.Native.Nat.{ℕ, suc, ◌+◌}
use mathlib.Core.Path.{◌≡◌, refl, sym, ap, ◌∙◌}
use mathlib.Core.Bool.{cond}
use mathlib.Core.List.{List}
use mathlib.Core.Option.{none, some}
use native.Mathlib.Omega.{arith}
use native.Mathlib.Numerals.{add-one}
use lib.Dec.{eqb}
use lib.ListN.{length, replicate}
use borrow.Author.Tests.{eq-eqb, ne_eqb}
use Rattle.std.specs.Prelude.{⊤}
use Rattle.std.specs.Bool.{then_some}
use Rattle.std.proofs.Common.{Option, Some, None}
use Rattle.words.proofs.Cases.{by_eq}
use Rattle.words.proofs.Zeroed.{zeros_length}
use Rattle.family.specs.Family.{Family, largest_item}
use Rattle.family.specs.Book.{start, at, place}
use Rattle.family.specs.File.{order, last_of}
use Rattle.family.proofs.Books.{book_start}
use Rattle.family.proofs.Orders.{grown_all, order_sound}
use Rattle.table.specs.Entered.{entered}
use Rattle.store.specs.Inner.{Holds}
use Rattle.store.proofs.Held.{held}
use Rattle.file_read.specs.Inner.{RecordsOf, TableOf, OrderOf}
use Rattle.file_table.specs.Inner.{Local}

-- an empty local table
pub blank_table : (nodes : List ℕ) (n : ℕ) {lookup : List ℕ} → lookup ≡ replicate n 0 → Local start 0 nodes lookup
unfolding entered
blank_table nodes n e =
    record {
      limit_low = omega arith;
      book = book_start largest_item;
      size = refl;
      each = λ k l. absurd (omega arith);
      lookup_is = e ∙ ap (λ n. replicate n 0) (sym (ap length e ∙ zeros_length n));
    }

-- the last family
module _ {C : List Family} {n : ℕ} {words lookup : List ℕ} (H : Holds largest_item C n words lookup) where
  lasts : (m : ℕ) → order C (at C (n + 1)) 2 ≡ some m → last_of n C ≡ cond (eqb m (n + 2)) (some (at C (n + 1))) none
  unfolding last_of
  lasts m e = let q : n + 2 ≡ suc (suc n) = omega arith in rw (q, add-one n) (rw (rw (add-one n) at e))

  last_none : order C (at C (n + 1)) 2 ≡ none → last_of n C ≡ none
  unfolding last_of
  last_none e = rw (rw (add-one n) at e)

  is_own : order C (at C (n + 1)) 2 ≡ some (n + 2) → place start (at C (n + 1)) ≡ C
  is_own e =
      let P = order_sound C H.book (at C (n + 1)) start (book_start largest_item) H.book.begins (held H (n + 1) (omega arith)) (n + 2) e in
      grown_all P.grows (P.ends ∙ sym H.size)

module _ {bytes : List ℕ} {n : ℕ} {nodes lookup lookup₀ nodes' lookup' : List ℕ} (same : length lookup ≡ length lookup₀) where
  pub table_unread : RecordsOf bytes n nodes lookup None nodes' lookup' → TableOf bytes n nodes lookup₀ None nodes' lookup'
  table_unread R = record { long = R.long; long_lookup = R.long_lookup ∙ same; outcome = rw R.outcome }

  module _ {u : ⊤} (R : RecordsOf bytes n nodes lookup (Some u) nodes' lookup') where
    pub table_broken : OrderOf nodes' n (n + 1) 1 None → TableOf bytes n nodes lookup₀ None nodes' lookup'
    table_broken A =
        let W = R.outcome in
        record { long = R.long; long_lookup = R.long_lookup ∙ same; outcome = rw W.is (last_none W.table (A.sound W.book lookup' W.table)) }

    pub table_done : (last : ℕ) → OrderOf nodes' n (n + 1) 1 (Some last) → (r : Option ⊤) {v : ⊤} → r ≡ then_some (eqb last (n + 1)) v → TableOf bytes n nodes lookup₀ r nodes' lookup'
    table_done last A r {v} er =
        let W = R.outcome in
        by_eq last (n + 1)
        (λ p t.
        let f : order W.book (at W.book (n + 1)) 2 ≡ some (n + 2) = o ∙ ap (λ m. some m) (omega arith) in
        let q : r ≡ Some v = er ∙ rw t in
        rw q record {
          long = R.long;
          long_lookup = R.long_lookup ∙ same;
          outcome = record { whole = W; last = lasts W.table (n + 2) f ∙ rw (eq-eqb (n + 2) (n + 2) refl); own = is_own W.table f };
        })
        (λ p t.
        let q : r ≡ None = er ∙ rw t in
        rw q record { long = R.long; long_lookup = R.long_lookup ∙ same; outcome = rw W.is (lasts W.table (suc last) o ∙ rw (ne_eqb (suc last) (n + 2) (omega arith))) })
      where
        o : order R.outcome.book (at R.outcome.book (n + 1)) 2 ≡ some (suc last)
        o = A.sound R.outcome.book lookup' R.outcome.table

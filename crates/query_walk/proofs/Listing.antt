-- The table lists a local book: a number's word is that of its family, a handle is found just where its family is held, and
-- a handle entered behind the others puts its family at the book's end.
-- No family has two handles in the store's book, nor two numbers in the local one.
use Prim.Native.Nat.{ℕ, zero, suc, ◌+◌, ◌-◌, ◌≤◌, ◌<◌}
use mathlib.Core.Path.{◌≡◌, refl, sym, ap, ◌∙◌}
use mathlib.Core.List.{List, [], ◌∷◌, ◌++◌}
use native.Mathlib.Omega.{arith}
use lib.ListN.{length, length-append}
use lib.Seq.{get_or_at}
use Rattle.std.specs.Prelude.{Option, None, Some, unwrap_or}
use Rattle.family.specs.Family.{Family, empty, top, size}
use Rattle.family.specs.Book.{start, at, number, Held, Grown, Book}
use Rattle.family.proofs.Books.{number_at, number_empty, held_at, grown_at, book_start}
use Rattle.family.proofs.Reading.{not_empty}
use Rattle.words.proofs.Cases.{by_lt}
use Rattle.store.specs.Inner.{Holds}
use Rattle.store.proofs.Held.{at_inj, at_node, within}
use Rattle.query_sizes.proofs.Brims.{some_size}
use Rattle.query_parts.specs.declared.entries.Parts.{Parts}
use Rattle.query_parts.specs.Inner.{handle_at, size_at, TableOf, Found, Entered}
use Rattle.query_walk.specs.Inner.{as_word, told, word_told, size_of, Part, Listed, Appended}
use Rattle.query_walk.proofs.Sums.{size_leaf, size_read, told_low, word_put, word_read}

-- a node's family has an item
pub has_item : {limit : ℕ} {B : List Family} {count : ℕ} {nodes lookup : List ℕ} → Holds limit B count nodes lookup → (p : ℕ) → 2 ≤ p → p < count + 2 → 0 < top (at B p)
has_item H p h l = let o = rw (at_node H p h l) at (within H p l).ordered in rw (at_node H p h l) (omega (arith, o.0))

-- an empty table lists {} and {{}}
pub list_start : {limit : ℕ} (B : List Family) (t : Parts) → t.entered ≡ 0 → Listed limit B start t
list_start {limit} B t z = record { book = book_start limit; long = omega arith; each = λ e l. absurd (omega arith) }

module _ {limit : ℕ} {C : List Family} (K : Book limit C) where
  pub begin_0 : at C 0 ≡ empty
  begin_0 = ap (λ X. at X 0) K.begins.eq

  pub begin_1 : at C 1 ≡ Family.base
  begin_1 = ap (λ X. at X 1) K.begins.eq

  -- a family with an item stands past {} and {{}}
  pub past_two : (k : ℕ) (F : Family) → 0 < top F → at C k ≡ F → 2 ≤ k
  past_two zero F t e = absurd (omega (arith, ap top (sym begin_0 ∙ e)))
  past_two (suc zero) F t e = absurd (omega (arith, ap top (sym begin_1 ∙ e)))
  past_two (suc (suc k)) F t e = omega arith

module _ {limit : ℕ} {B C : List Family} {t : Parts} (L : Listed limit B C t) where
  -- 0 is the number of {} alone
  number_zero : (r : ℕ) (F : Family) → r < length C → at C r ≡ F → F ≡ empty → r ≡ 0
  number_zero r F l e d = sym (L.book.unique r l) ∙ ap (λ X. number C X) (e ∙ d) ∙ number_empty C L.book

  -- a part has a member
  some_members : (r : ℕ) → 2 ≤ r → r < length C → 1 ≤ size (at C r)
  some_members r h l =
      some_size (at C r) (L.book.within (at C r) (held_at C L.book r l)).ordered (not_empty (at C r) (λ d. omega (arith, number_zero r (at C r) l refl d)))

  -- the size of a number
  pub number_told : (r : ℕ) → r < length C → size_of t r ≡ told (size (at C r))
  number_told zero l = sym (size_leaf t 0 (omega arith)) ∙ sym (ap (λ F. told (size F)) (begin_0 L.book) ∙ told_low 0 (omega arith))
  number_told (suc zero) l = sym (size_leaf t 1 (omega arith)) ∙ sym (ap (λ F. told (size F)) (begin_1 L.book) ∙ told_low 1 (omega arith))
  number_told (suc (suc e)) l =
      let same : suc (suc e) - 2 ≡ e = omega arith in
      let past : e + 2 ≡ suc (suc e) = omega arith in
      size_read t (suc (suc e)) (omega arith)
      ∙ ap (λ k. word_told (size_at t.places t.words.now k)) same
      ∙ ap word_told (L.each e (omega (arith, L.long))).size_is
      ∙ ap (λ k. word_told (as_word (size (at C k)))) past
      ∙ word_read (size (at C (suc (suc e)))) (some_members (suc (suc e)) (omega arith) l)

  module _ {count : ℕ} {nodes lookup : List ℕ} (H : Holds limit B count nodes lookup) (p : ℕ) (h : 2 ≤ p) (l : p < count + 2) where
    -- a handle that was not found
    pub found_none : Found t p None → Held C (at B p) → ⊥
    found_none W q = go (number C (at B p)) q (number_at C (at B p) q)
      where
        go : (k : ℕ) → k < length C → at C k ≡ at B p → ⊥
        go k m e =
            let two = past_two L.book k (at B p) (has_item H p h l) e in
            let P = L.each (k - 2) (omega (arith, L.long)) in
            let same : at C (k - 2 + 2) ≡ at B p = ap (λ j. at C j) (omega arith) ∙ e in
            W.none refl (k - 2) (omega (arith, L.long)) (at_inj H (handle_at t.words.now (k - 2)) p (omega (arith, P.held, H.size)) l (P.means ∙ same))

    -- a handle that was found
    pub found_some : (e : ℕ) → Found t p (Some e) → at C (e + 2) ≡ at B p
    found_some e W = sym (L.each e (W.some e refl).0).means ∙ ap (λ j. at B j) (W.some e refl).1

-- a handle entered behind the others
module _ {p word : ℕ} (t t' : Parts) (E : Entered p word t t') where
  module _ {limit : ℕ} (B C : List Family) (F : Family) (L : Listed limit B C t) (l : p < length B) (m : at B p ≡ F) (s : word ≡ as_word (size F)) (K : Book limit (C ++ (F ∷ []))) where
    last : (k : ℕ) → k ≡ length C → at (C ++ (F ∷ [])) k ≡ F
    last k e = get_or_at C F [] empty k (sym e)

    old : (k : ℕ) → k < length C → at (C ++ (F ∷ [])) k ≡ at C k
    old k d = let g : Grown C (C ++ (F ∷ [])) = record { new = F ∷ []; eq = refl } in grown_at g k d

    size_there : (e : ℕ) → size_at t'.places t'.words.now e ≡ size_at t.places t'.words.now e
    size_there e = ap (λ k. size_at k t'.words.now e) E.places_stay

    part : (e : ℕ) → e < t'.entered → Part B (at (C ++ (F ∷ [])) (e + 2)) t' e
    part e d =
        by_lt e t.entered
        (λ a w.
        let P = L.each e a in
        rw (old (e + 2) (omega (arith, L.long))) record {
          held = omega (arith, P.held, E.handles_stay e a);
          means = ap (λ h. at B h) (E.handles_stay e a) ∙ P.means;
          size_is = size_there e ∙ E.sizes_stay e a ∙ P.size_is;
        })
        (λ a w.
        let same : e ≡ t.entered = omega (arith, E.one_more) in
        rw (same, last (t.entered + 2) (sym L.long)) record {
          held = omega (arith, E.handle_is);
          means = ap (λ h. at B h) E.handle_is ∙ m;
          size_is = size_there t.entered ∙ E.size_is ∙ s;
        })

    listed_behind : Listed limit B (C ++ (F ∷ [])) t' × ((t.entered + 2 < length (C ++ (F ∷ []))) × (at (C ++ (F ∷ [])) (t.entered + 2) ≡ F))
    listed_behind =
        let longer : length (C ++ (F ∷ [])) ≡ length C + 1 = length-append C (F ∷ []) in
        (record { book = K; long = omega (arith, L.long, E.one_more); each = part }, (omega (arith, L.long), last (t.entered + 2) (sym L.long)))

  pub append_done : (size_is : Option ℕ) → word ≡ unwrap_or size_is 0 → Appended p size_is t t' (Some (t.entered + 2))
  append_done size_is w =
      record {
        went = record {
          same = E.places_stay;
          long = E.long;
          table = E.table;
          low = λ k q. let same : k ≡ t.entered + 2 = cc in omega (arith, E.one_more);
        };
        sound = λ B C F L l m s K. record {
          listed = λ k q.
              let same : k ≡ t.entered + 2 = cc in
              let a = listed_behind B C F L l m (w ∙ ap (λ o. unwrap_or o 0) s ∙ word_put (size F)) K in
              (a.0, (omega (arith, a.1.0), ap (λ j. at (C ++ (F ∷ [])) j) same ∙ a.1.1));
          short = λ q. cc;
        };
      }

pub append_full : (p : ℕ) (size_is : Option ℕ) (t : Parts) → TableOf t → t.entered ≡ t.places → Appended p size_is t t None
append_full p size_is t T e =
    record {
      went = record { same = refl; long = refl; table = T; low = λ k q. cc };
      sound = λ B C F L l m s K. record { listed = λ k q. cc; short = λ q. omega (arith, L.long, length-append C (F ∷ [])) };
    }

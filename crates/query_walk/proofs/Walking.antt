-- Each way out of the walk: a part that was entered changes nothing, else its sides are walked and it is put behind them,
-- which places it in the local book; where there are more parts than places the book is longer than the table.
-- A side has a smaller top than the part, so that walking it cannot enter the part.
use Prim.Native.Nat.{ℕ, ◌+◌, ◌*◌, ◌-◌, ◌≤◌, ◌<◌}
use mathlib.Core.Path.{◌≡◌, refl, ap, sym, ◌∙◌}
use mathlib.Core.List.{List, [], ◌∷◌, ◌++◌}
use native.Mathlib.Omega.{arith}
use lib.ListN.{length, get_or}
use borrow.Author.Tests.{ne_eqb}
use Rattle.std.specs.Prelude.{Option, None, Some, cond, eqb, T}
use Rattle.family.specs.Family.{Family, empty, node, top, size, inhabited, Ordered}
use Rattle.family.specs.Book.{at, number, Held, place, Book}
use Rattle.family.proofs.Books.{held_at, grown_length, grown_at, add_new, add_grown}
use Rattle.family.proofs.Placing.{book_place, place_grown, place_held, held_below}
use Rattle.words.proofs.Cases.{by_lt, by_eq}
use Rattle.store.specs.Inner.{Holds}
use Rattle.store.proofs.Held.{at_0, at_1, at_node, entry, inside, within}
use Rattle.query_parts.specs.declared.entries.Parts.{Parts}
use Rattle.query_parts.specs.Inner.{TableOf, Found}
use Rattle.query_walk.specs.Inner.{told, size_of, Summed, Listed, Came, Went, Appended, Any, New, Walked}
use Rattle.query_walk.proofs.Listing.{begin_0, begin_1, number_told, found_none, found_some}

-- no number, with the table that the walk came to
stopped : {t t' : Parts} → t'.places ≡ t.places → length t'.words.now ≡ length t.words.now → TableOf t' → Went t t' None
stopped s e T = record { same = s; long = e; table = T; low = λ k q. cc }

-- a book that has outgrown the table
outgrown : {limit : ℕ} {B C : List Family} {F : Family} {t : Parts} → t.places + 2 < length C → Came limit B C F t None
outgrown l = record { listed = λ k q. cc; short = λ q. l }

-- {} is not inhabited
empty_not : {F : Family} → F ≡ empty → T (inhabited F) → ⊥
empty_not e i = rw e at i

-- the size of a with-side that is not {}
pub with_other : {r : ℕ} {with size_is : Option ℕ} → with ≡ cond (eqb r 0) None size_is → (r ≡ 0 → ⊥) → with ≡ size_is
with_other {r} e n = rw (ne_eqb r 0 n) at e

-- a handle as it is listed
stands : {limit : ℕ} {B C : List Family} {F : Family} {t : Parts} {r : ℕ} → Listed limit B C t → r < length C → at C r ≡ F → Came limit B C F t (Some r)
stands {C = C} {r = r} L l e =
    record { listed = λ k q. let same : k ≡ r = cc in (L, (omega arith, ap (λ j. at C j) same ∙ e)); short = λ q. cc }

module _ (p bound : ℕ) (nodes : List ℕ) (count : ℕ) (t : Parts) (T : TableOf t) where
  -- {} and {{}} need no place
  pub walked_leaf : p < 2 → Walked Any p bound nodes count t t (Some p)
  walked_leaf l =
      record {
        went = record { same = refl; long = refl; table = T; low = λ k q. let same : k ≡ p = cc in omega arith };
        sound = λ B C lookup H m w f L. by_eq p 0
            (λ e d. rw (e, at_0 H) (stands L (omega (arith, L.long)) (begin_0 L.book)))
            (λ e d. let one : p ≡ 1 = omega arith in rw (one, at_1 H) (stands L (omega (arith, L.long)) (begin_1 L.book)));
      }

  module _ (h : 2 ≤ p) where
    pub walked_found : {e : ℕ} → Found t p (Some e) → Walked Any p bound nodes count t t (Some (e + 2))
    walked_found {e} W =
        let low' = (W.some e refl).0 in
        record {
          went = record { same = refl; long = refl; table = T; low = λ k q. let same : k ≡ e + 2 = cc in omega arith };
          sound = λ B C lookup H m w f L.
              let is = found_some L H p h m e W in
              let low : e + 2 < length C = omega (arith, L.long) in
              rw (place_held C (at B p) L.book (rw is at (held_at C L.book (e + 2) low))) (stands L low is);
        }

    pub walked_on : Found t p None → {t' : Parts} {r : Option ℕ} → Walked New p bound nodes count t t' r → Walked Any p bound nodes count t t' r
    walked_on W D = record { went = D.went; sound = λ B C lookup H m w f L. D.sound B C lookup H m w (found_none L H p h m W) L }

  pub descended_outside : count + 1 < p → Walked New p bound nodes count t t None
  descended_outside o = record { went = stopped refl refl T; sound = λ B C lookup H m w f L. absurd (omega arith) }

  module _ (h : 2 ≤ p) where
    -- the words of the node
    abbrev item : ℕ
    item = get_or nodes (3 * (p - 2)) 0

    abbrev z : ℕ
    z = get_or nodes (3 * (p - 2) + 1) 0

    abbrev o : ℕ
    o = get_or nodes (3 * (p - 2) + 2) 0

    pub descended_high : bound ≤ item → Walked New p bound nodes count t t None
    descended_high l =
        record { went = stopped refl refl T; sound = λ B C lookup H m w f L. absurd (omega (arith, ap top (at_node H p h m))) }

    -- the sides of the node, on words that hold a book
    module _ {limit : ℕ} {B : List Family} {lookup : List ℕ} (H : Holds limit B count nodes lookup) (m : p < count + 2) where
      ordered : Ordered (node item (at B z) (at B o))
      ordered = rw (at_node H p h m) at (within H p m).ordered

      z_held : z < count + 2
      z_held = omega (arith, (entry H p h m).zero_before)

      o_held : o < count + 2
      o_held = omega (arith, (entry H p h m).one_before)

      -- a book with both sides is no longer than with the node
      both_shorter : (C : List Family) → length (place (place C (at B z)) (at B o)) ≤ length (place C (at B p))
      both_shorter C = rw (at_node H p h m) (grown_length (add_grown (place (place C (at B z)) (at B o)) (node item (at B z) (at B o))))

      first_shorter : (C : List Family) → length (place C (at B z)) ≤ length (place C (at B p))
      first_shorter C = omega (arith, both_shorter C, grown_length (place_grown (place C (at B z)) (at B o)))

    -- the without-side finds no place
    pub descended_first : {t₁ : Parts} → Walked Any z item nodes count t t₁ None → Walked New p bound nodes count t t₁ None
    descended_first Z =
        record {
          went = stopped Z.went.same Z.went.long Z.went.table;
          sound = λ B C lookup H m w f L. outgrown (omega (arith, first_shorter H m C, (Z.sound B C lookup H (z_held H m) (ordered H m).0 tt L).short refl));
        }

    module _ {t₁ : Parts} {r₁ : ℕ} (Z : Walked Any z item nodes count t t₁ (Some r₁)) {t₂ : Parts} {found : Option ℕ} (O : Walked Any o item nodes count t₁ t₂ found) where
      same₂ : t₂.places ≡ t.places
      same₂ = O.went.same ∙ Z.went.same

      long₂ : length t₂.words.now ≡ length t.words.now
      long₂ = O.went.long ∙ Z.went.long

      module _ {limit : ℕ} {B C : List Family} {lookup : List ℕ} (H : Holds limit B count nodes lookup) (m : p < count + 2) (L : Listed limit B C t) where
        first : Listed limit B (place C (at B z)) t₁ × ((r₁ < length (place C (at B z))) × (at (place C (at B z)) r₁ ≡ at B z))
        first = (Z.sound B C lookup H (z_held H m) (ordered H m).0 tt L).listed r₁ refl

        second : Came limit B (place (place C (at B z)) (at B o)) (at B o) t₂ found
        second = O.sound B (place C (at B z)) lookup H (o_held H m) (ordered H m).1 tt first.0

      -- the with-side finds no place
      pub descended_second : found ≡ None → Walked New p bound nodes count t t₂ None
      descended_second e =
          record {
            went = stopped same₂ long₂ O.went.table;
            sound = λ B C lookup H m w f L. outgrown (omega (arith, both_shorter H m C, (second H m L).short e));
          }

      -- Both sides are listed, and the part is put behind them. On words that hold a book a with-side is not {}, so what is
      -- taken for the size of {} makes no difference.
      module _ {r₂ : ℕ} (some₂ : found ≡ Some r₂) {without with : Option ℕ} (ew : without ≡ size_of t₂ r₁) (eo : (r₂ ≡ 0 → ⊥) → with ≡ size_of t₂ r₂) {size_is : Option ℕ} (S : Summed without with size_is) {t₃ : Parts} {r : Option ℕ}
          (A : Appended p size_is t₂ t₃ r) where
        module _ {limit : ℕ} {B C : List Family} {lookup : List ℕ} (H : Holds limit B count nodes lookup) (m : p < count + 2) (f : Held C (at B p) → ⊥) (L : Listed limit B C t) where
          -- the book with the sides
          abbrev D : List Family
          D = place (place C (at B z)) (at B o)

          both : Listed limit B D t₂ × ((r₂ < length D) × (at D r₂ ≡ at B o))
          both = (second H m L).listed r₂ some₂

          first_at : at D r₁ ≡ at B z
          first_at = grown_at (place_grown (place C (at B z)) (at B o)) r₁ (first H m L).1.0 ∙ (first H m L).1.1

          first_in : r₁ < length D
          first_in = omega (arith, (first H m L).1.0, grown_length (place_grown (place C (at B z)) (at B o)))

          -- the with-side is not {}
          with_some : r₂ ≡ 0 → ⊥
          with_some e = empty_not (sym both.1.1 ∙ rw e (begin_0 both.0.book)) (ordered H m).2

          -- the size put is the part's
          size_put : size_is ≡ told (size (node item (at B z) (at B o)))
          size_put =
              S.is (size (at B z)) (size (at B o)) (ew ∙ number_told both.0 r₁ first_in ∙ ap (λ F. told (size F)) first_at)
              (eo with_some ∙ number_told both.0 r₂ both.1.0 ∙ ap (λ F. told (size F)) both.1.1)

          -- neither side's walk enters the part
          lacks : Held D (node item (at B z) (at B o)) → ⊥
          lacks q =
              f (rw (at_node H p h m) (held_below C (at B z) (node item (at B z) (at B o)) (ordered H m).3 (ordered H m).0
              (held_below (place C (at B z)) (at B o) (node item (at B z) (at B o)) (ordered H m).4 (ordered H m).1 q)))

          placed : place C (at B p) ≡ D ++ (node item (at B z) (at B o) ∷ [])
          placed =
              rw (at_node H p h m) (add_new D (node item (at B z) (at B o))
              (by_lt (number D (node item (at B z) (at B o))) (length D) (λ q e. absurd (lacks q)) (λ q e. q)))

          put : Came limit B (place C (at B p)) (at B p) t₃ r
          put =
              let K : Book limit (D ++ (node item (at B z) (at B o) ∷ [])) = rw placed at (book_place C (at B p) L.book (within H p m)).0 in
              rw (placed, at_node H p h m) (A.sound B D (node item (at B z) (at B o)) both.0 (inside H p m) (at_node H p h m) size_put K)

        pub descended_done : Walked New p bound nodes count t t₃ r
        descended_done =
            record {
              went = record { same = A.went.same ∙ same₂; long = A.went.long ∙ long₂; table = A.went.table; low = A.went.low };
              sound = λ B C lookup H m w f L. put H m f L;
            }

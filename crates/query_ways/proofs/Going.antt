-- Going through the window: at each handle all ways to it are known, and what they come to stays the size of the asked
-- family; at the end the total is that size, and no part is left out of those gone through and those in the table.
-- The sides of a handle are smaller handles, so no way to it is handed on later.
use Prim.Native.Nat.{ℕ, suc, ◌+◌, ◌*◌, ◌-◌, ◌≤◌, ◌<◌}
use mathlib.Core.Path.{◌≡◌, refl, sym, ap, subst, ◌∙◌}
use mathlib.Core.Logic.{◌⊎◌, ⊎_elim}
use mathlib.Core.Bool.{true}
use mathlib.Core.List.{List, [], ◌∷◌, ◌++◌, Memᴰ}
use native.Mathlib.Omega.{arith}
use native.Mathlib.Nat.{mul-zero}
use lib.ListN.{length, get_or, length-append}
use Rattle.std.specs.Prelude.{None, Some}
use Rattle.words.proofs.Cases.{by_lt}
use Rattle.family.specs.Family.{Family, node, size, parts}
use Rattle.family.specs.Book.{start, at, number, Held, place, Book}
use Rattle.family.proofs.Books.{same_self, book_start, held_at, grown_held}
use Rattle.family.proofs.Placing.{book_place, place_only}
use Rattle.family.proofs.Different.{no_longer}
use Rattle.family.proofs.Bound.{own_length, held_left, held_right}
use Rattle.store.specs.Inner.{Holds}
use Rattle.store.proofs.Held.{at_node, within}
use Rattle.query_parts.specs.declared.entries.Parts.{Parts}
use Rattle.query_parts.specs.Inner.{TableOf}
use Rattle.query_walk.proofs.Listing.{list_start}
use Rattle.query_ways.specs.declared.hand.Passage.{Passage}
use Rattle.query_ways.specs.Inner.{worth, Covered, passed, entered, due, owing, Ways, HandedBoth, GoAsks, Gone}
use Rattle.query_ways.proofs.Worth.{worth_one}

-- a list holds its first family
held_first : (F : Family) (B : List Family) → Held (F ∷ B) F
held_first F B = rw (same_self F) (omega arith)

-- a node that ways have come to: they are owed to its sides
module _ {limit : ℕ} {B C D : List Family} {F : Family} {w left low : ℕ} {window : List ℕ} {t : Parts} {total count : ℕ} {nodes lookup : List ℕ} (H : Holds limit B count nodes lookup) (p : ℕ) (h : 2 ≤ p)
    (l : p < count + 2) (e : p ≡ low + left) (W : Ways limit B C D F [] w (suc left) low window t total) where
  abbrev item : ℕ
  item = get_or nodes (3 * (p - 2)) 0

  abbrev a : Family
  a = at B (get_or nodes (3 * (p - 2) + 1) 0)

  abbrev b : Family
  b = at B (get_or nodes (3 * (p - 2) + 2) 0)

  is : at B (low + left) ≡ node item a b
  is = ap (λ k. at B k) (sym e) ∙ at_node H p h l

  ways_open : Ways limit B C (node item a b ∷ D) F (a ∷ b ∷ []) (get_or window left 0) left low window t total
  ways_open =
      record {
        listed = W.listed;
        sum =
            let s : worth B low window left + get_or window left 0 * (size a + size b) + total + w * 0 ≡ size F = rw is at W.sum in
            let g : size a + (size b + 0) ≡ size a + size b = omega arith in
            rw g (omega (arith, rw mul-zero at s));
        covers = λ X m. cover X (W.covers X m);
      }
    where
      cover : (X : Family) → Covered B C D [] low (suc left) window X → Covered B C (node item a b ∷ D) (a ∷ b ∷ []) low left window X
      cover X (passed q) = passed (held_right (node item a b ∷ []) D X q)
      cover X (entered q) = entered q
      cover X (due i m f q) =
          by_lt i left (λ d y. due i d f q)
          (λ d y.
          let same : i ≡ left = omega arith in
          let r : Memᴰ X (parts (node item a b)) = subst (λ K. Memᴰ X (parts K)) (ap (λ k. at B (low + k)) same ∙ is) q in
          ⊎_elim (λ u. owing a (mathlib.Core.List.Memᴰ.head refl) u)
          (λ u. ⊎_elim (λ v. owing b (mathlib.Core.List.Memᴰ.tail (mathlib.Core.List.Memᴰ.head refl)) v) (λ v. passed (let d : X ≡ node item a b = mathlib.Core.List.Memᴰ.eq_of_singleton v in subst (λ K. Held (node item a b ∷ D) K) (sym d) (held_first (node item a b) D))) (mathlib.Core.List.Memᴰ.append_cases (parts b) u))
          (mathlib.Core.List.Memᴰ.append_cases (parts a) r))
      cover X (owing G m q) = absurd (mathlib.Core.List.Memᴰ.not-nil m)

-- a handle that no way comes to
ways_skip : {limit : ℕ} {B C D : List Family} {F : Family} {w left low : ℕ} {window : List ℕ} {t : Parts} {total : ℕ} → get_or window left 0 ≡ 0
    → Ways limit B C D F [] w (suc left) low window t total → Ways limit B C D F [] w left low window t total
ways_skip {B = B} {C = C} {D = D} {left = left} {low = low} {window = window} e W =
    record { listed = W.listed; sum = omega (arith, rw e at W.sum); covers = λ X m. cover X (W.covers X m) }
  where
    cover : (X : Family) → Covered B C D [] low (suc left) window X → Covered B C D [] low left window X
    cover X (passed q) = passed q
    cover X (entered q) = entered q
    cover X (due i m f q) = by_lt i left (λ d t. due i d f q) (λ d t. absurd (f (ap (λ k. get_or window k 0) (omega arith) ∙ e)))
    cover X (owing G m q) = owing G m q

-- with nothing owed the number of ways does not matter
ways_any : {limit : ℕ} {B C D : List Family} {F : Family} {w v left low : ℕ} {window : List ℕ} {t : Parts} {total : ℕ} → Ways limit B C D F [] w left low window t total → Ways limit B C D F [] v left low window t total
ways_any {w = w} {v = v} W = record { listed = W.listed; sum = rw (mul-zero v) (rw (mul-zero w) at W.sum); covers = W.covers }

-- how far p is counted, with so many words of the window left and so many parts gone through
pub record Goes (p : ℕ) (nodes : List ℕ) (count width left seen low : ℕ) (window : List ℕ) (t : Parts) (total : ℕ) : Type 0 where
  pub within : seen + left ≤ width
  pub long : length window ≡ width
  pub low_is : low + width ≡ p + 1
  pub low_some : 2 ≤ low
  pub some : 0 < t.places
  pub table : TableOf t
  pub sound : {limit : ℕ} (B : List Family) (lookup : List ℕ) → Holds limit B count nodes lookup → (C : List Family) × (D : List Family) × ((length D ≡ seen) × Ways limit B C D (at B p) [] 1 left low window t total)

module _ (p : ℕ) (nodes : List ℕ) (count width : ℕ) where
  pub goes_begin : (w : Passage) → GoAsks p nodes count w → width ≡ length w.window.now → Goes p nodes count width width 0 w.low w.window.now w.parts w.total
  goes_begin w A is =
      record {
        within = omega arith;
        long = sym is;
        low_is = omega (arith, A.low_is);
        low_some = A.low_some;
        some = A.some;
        table = A.table;
        sound = λ B lookup H. (
          start,
          [],
          (
            refl,
            record {
              listed = list_start B w.parts A.empty;
              sum =
                  let s : worth B w.low w.window.now width ≡ size (at B p) = ap (λ k. worth B w.low w.window.now k) wide
                  ∙ worth_one B w.low w.window.now (length w.window.now - 1) A.opened.none A.opened.one
                  ∙ ap (λ k. size (at B k)) last in
                  omega (arith, s, A.nothing);
              covers = λ X m. due (length w.window.now - 1) (omega (arith, A.wide)) (λ z. omega (arith, A.opened.one)) (subst (λ k. Memᴰ X (parts (at B k))) (sym last) m);
            },
          ),
        );
      }
    where
      wide : width ≡ suc (length w.window.now - 1)
      wide = omega (arith, A.wide)

      last : w.low + (length w.window.now - 1) ≡ p
      last = omega (arith, A.wide, A.low_is)

  module _ {left seen : ℕ} (w : Passage) (s : left ≡ suc w.left) (G : Goes p nodes count width left seen w.low w.window.now w.parts w.total) where
    module _ {limit : ℕ} (B : List Family) (lookup : List ℕ) (H : Holds limit B count nodes lookup) where
      abbrev at_turn : (C : List Family) × (D : List Family) × ((length D ≡ seen) × Ways limit B C D (at B p) [] 1 (suc w.left) w.low w.window.now w.parts w.total)
      at_turn =
          let g = G.sound B lookup H in
          (g.0, g.1, (g.2.0, subst (λ k. Ways limit B g.0 g.1 (at B p) [] 1 k w.low w.window.now w.parts w.total) s g.2.1))

    pub goes_skip : get_or w.window.now w.left 0 ≡ 0 → Goes p nodes count width w.left seen w.low w.window.now w.parts w.total
    goes_skip e =
        record {
          within = omega (arith, G.within);
          long = G.long;
          low_is = G.low_is;
          low_some = G.low_some;
          some = G.some;
          table = G.table;
          sound = λ B lookup H. let g = at_turn B lookup H in (g.0, g.1, (g.2.0, ways_skip e g.2.1));
        }

    pub goes_on : (get_or w.window.now w.left 0 ≡ 0 → ⊥) → p ≤ count + 1 → {w' : Passage} → HandedBoth (w.low + w.left) (get_or w.window.now w.left 0) nodes count w w' true
        → Goes p nodes count width w.left (seen + 1) w'.low w'.window.now w'.parts w'.total
    goes_on f c {w'} E =
        record {
          within = omega (arith, G.within);
          long = E.keeps.long ∙ G.long;
          low_is = omega (arith, E.keeps.low_stays, G.low_is);
          low_some = omega (arith, E.keeps.low_stays, G.low_some);
          some = omega (arith, E.keeps.places_stay, G.some);
          table = E.keeps.table;
          sound = λ {limit} B lookup H.
              let g = at_turn B lookup H in
              let O = ways_open H (w.low + w.left) (omega (arith, G.low_some)) (omega (arith, G.within, G.low_is)) refl g.2.1 in
              let N = node (get_or nodes (3 * (w.low + w.left - 2)) 0) (at B (get_or nodes (3 * (w.low + w.left - 2) + 1) 0)) (at B (get_or nodes (3 * (w.low + w.left - 2) + 2) 0)) in
              let a = E.sound refl B g.0 (N ∷ g.1) (at B p) lookup H (omega arith) O in
              (a.0, N ∷ g.1, (omega (arith, g.2.0), ways_any (subst (λ k. Ways limit B a.0 (N ∷ g.1) (at B p) [] (get_or w.window.now w.left 0) k w'.low w'.window.now w'.parts w'.total) E.keeps.left_stays a.1)));
        }

  -- the total is the size, and all parts were gone through or entered
  pub goes_end : {seen low total most : ℕ} {window : List ℕ} {t : Parts} → p ≤ count + 1 → Goes p nodes count width 0 seen low window t total → seen + t.entered ≤ most → Gone p nodes count most (Some total)
  goes_end {seen} {low} {total} {most} {window} {t} c G m =
      record {
        is = λ k f {limit} B lookup H.
            let g = G.sound B lookup H in
            let W = g.2.1 in
            let same : k ≡ total = cc in
            (omega (arith, W.sum), omega (arith, own_length (at B p), g.2.0, W.listed.long, length-append g.1 g.0, counts B lookup H g.0 g.1 W));
      }
    where
      counts : {limit : ℕ} (B : List Family) (lookup : List ℕ) → Holds limit B count nodes lookup → (C D : List Family) → Ways limit B C D (at B p) [] 1 0 low window t total
          → length (place start (at B p)) ≤ length (D ++ C)
      counts {limit} B lookup H C D W =
          no_longer (place start (at B p)) (D ++ C)
          (λ j k d m e. omega (arith, own.unique j (omega arith), own.unique k m, ap (λ X. number (place start (at B p)) X) e))
          (λ k m. stands (at (place start (at B p)) k) (place_only start (at B p) (at (place start (at B p)) k) (held_at (place start (at B p)) own k m)))
        where
          own : Book limit (place start (at B p))
          own = (book_place start (at B p) (book_start limit) (within H p (omega arith))).0

          covered : (X : Family) → Covered B C D [] low 0 window X → Held (D ++ C) X
          covered X (passed q) = held_left D C X q
          covered X (entered q) = held_right D C X q
          covered X (due i l f q) = absurd (omega arith)
          covered X (owing K l q) = absurd (mathlib.Core.List.Memᴰ.not-nil l)

          stands : (X : Family) → (Held start X ⊎ Memᴰ X (parts (at B p))) → Held (D ++ C) X
          stands X q = ⊎_elim (λ s. held_right D C X (grown_held W.listed.book.begins X s)) (λ s. covered X (W.covers X s)) q

-- a size that was not found so
pub gone_not : {p : ℕ} {nodes : List ℕ} {count most : ℕ} → Gone p nodes count most None
gone_not = record { is = λ k f. cc }

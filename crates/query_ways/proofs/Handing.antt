-- Ways handed on to a family: what all ways come to stays the size of the asked family, and no part of it is left out.
-- In the window the word of its handle rises; below the window the family is placed in the table's book, which then holds
-- all its parts, and the total rises by its size for each way.
use Prim.Native.Nat.{ℕ, ◌+◌, ◌*◌, ◌-◌, ◌≤◌, ◌<◌}
use mathlib.Core.Path.{◌≡◌, refl, sym, ap, subst, ◌∙◌}
use mathlib.Core.Logic.{⊎_elim}
use mathlib.Core.Bool.{Bool, true, false}
use mathlib.Core.List.Memᴰ
use mathlib.Core.List.{List, [], ◌∷◌, Memᴰ}
use native.Mathlib.Omega.{arith}
use native.Mathlib.Nat.{zero-add, mul-add}
use lib.ListN.{length, get_or, set, length-set}
use lib.Seq.{get_or-set_same, get_or-set_other}
use Rattle.std.specs.Prelude.{Option, Some}
use Rattle.words.proofs.Cases.{by_test, by_eq, clash}
use Rattle.family.specs.Family.{Family, empty, size, parts}
use Rattle.family.specs.Book.{at, Held, place}
use Rattle.family.proofs.Books.{grown_held}
use Rattle.family.proofs.Placing.{place_grown, parts_held}
use Rattle.store.proofs.Held.{at_0, entry, within}
use Rattle.query_parts.specs.declared.entries.Parts.{Parts}
use Rattle.query_walk.specs.Inner.{told, size_of, Listed, Any, Walked}
use Rattle.query_walk.proofs.Sums.{told_some}
use Rattle.query_walk.proofs.Listing.{number_told}
use Rattle.query_ways.specs.declared.hand.Passage.{Passage}
use Rattle.query_ways.specs.Inner.{Covered, passed, entered, due, owing, Ways, WaysOf, HandedDown, HandAsks, Keeps, Handed, BothAsks, HandedBoth}
use Rattle.query_ways.proofs.Worth.{worth_rises}

-- a part of the first family that is owed, or as before
by_owed : {B C D owed : List Family} {G : Family} {low left : ℕ} {words : List ℕ} {X : Family} {A : Type 0} → Covered B C D (G ∷ owed) low left words X
    → (Held D X → A) → (Held C X → A) → ((i : ℕ) → i < left → (get_or words i 0 ≡ 0 → ⊥) → Memᴰ X (parts (at B (low + i))) → A)
    → ((H : Family) → Memᴰ H owed → Memᴰ X (parts H) → A) → (Memᴰ X (parts G) → A) → A
by_owed (passed h) a b c d e = a h
by_owed (entered h) a b c d e = b h
by_owed (due i l n m) a b c d e = c i l n m
by_owed {X = X} (owing H m q) a b c d e = ⊎_elim (λ p. e (subst (λ K. Memᴰ X (parts K)) p q)) (λ p. d H p q) (Memᴰ.cases_cons m)

-- what is read in the window and in the table
module _ {limit : ℕ} {B C D : List Family} {F : Family} {owed : List Family} {ways left low : ℕ} {window : List ℕ} {t : Parts} {total : ℕ} where
  -- {} is owed nothing
  ways_empty : Ways limit B C D F (empty ∷ owed) ways left low window t total → Ways limit B C D F owed ways left low window t total
  ways_empty W =
      record {
        listed = W.listed;
        sum = rw zero-add at W.sum;
        covers = λ X m. by_owed (W.covers X m) passed entered due owing (λ q. absurd (Memᴰ.not-nil q));
      }

  -- the word of a handle in the window
  ways_down : {window' : List ℕ} (G : Family) (k : ℕ) → G ≡ at B (low + k) → 0 < ways → k < left → left ≤ length window → window' ≡ set window k (get_or window k 0 + ways)
      → Ways limit B C D F (G ∷ owed) ways left low window t total → Ways limit B C D F owed ways left low window' t total
  ways_down {window'} G k g s l h e W =
      record {
        listed = W.listed;
        sum = let r = worth_rises B low window k ways left l h in rw (e, r, ← g) (omega (arith, rw mul-add at W.sum));
        covers = λ X m. by_owed (W.covers X m) passed entered
            (λ i p q t. due i p (λ z. risen i q (sym (ap (λ V'. get_or V' i 0) e) ∙ z)) t) owing
            (λ q. due k l (λ z. omega (arith, sym (ap (λ V'. get_or V' k 0) e) ∙ z, at_k)) (subst (λ K. Memᴰ X (parts K)) g q));
      }
    where
      at_k : get_or (set window k (get_or window k 0 + ways)) k 0 ≡ get_or window k 0 + ways
      at_k = get_or-set_same window k (get_or window k 0 + ways) 0 (omega arith)

      other : (i : ℕ) → (i ≡ k → ⊥) → get_or (set window k (get_or window k 0 + ways)) i 0 ≡ get_or window i 0
      other i d = get_or-set_other window k i (get_or window k 0 + ways) 0 d

      risen : (i : ℕ) → (get_or window i 0 ≡ 0 → ⊥) → get_or (set window k (get_or window k 0 + ways)) i 0 ≡ 0 → ⊥
      risen i q z = by_eq i k (λ p d. omega (arith, rw p at z, at_k)) (λ p d. q (sym (other i p) ∙ z))

  -- a family below the window, placed in the table's book
  ways_below : {t' : Parts} {total' : ℕ} (G : Family) → Listed limit B (place C G) t' → total' ≡ total + ways * size G → Ways limit B C D F (G ∷ owed) ways left low window t total
      → Ways limit B (place C G) D F owed ways left low window t' total'
  ways_below G L e W =
      record {
        listed = L;
        sum = rw e (omega (arith, rw mul-add at W.sum));
        covers = λ X m. by_owed (W.covers X m) passed (λ h. entered (grown_held (place_grown C G) X h)) due owing (λ q. entered (parts_held C G X q));
      }

-- what is asked before the next hand-on
pub keeps_asks : {nodes : List ℕ} {count : ℕ} {w w' : Passage} → HandAsks nodes count w → Keeps w w' → HandAsks nodes count w'
keeps_asks A K =
    let q = A.walk in
    record {
      walk = record { nodes_long = q.nodes_long; few = q.few; some = omega (arith, q.some, K.places_stay); table = K.table };
      within = omega (arith, A.within, K.long, K.left_stays);
    }

-- the ways out of the functions that hand on
module _ (child ways : ℕ) (nodes : List ℕ) (count : ℕ) (w w' : Passage) (A : HandAsks nodes count w) where
  pub handed_not : Keeps w w' → Handed child ways nodes count w w' false
  handed_not K = record { keeps = K; sound = λ e. clash e refl }

  -- in the window, of which all else stays
  module _ (same_low : w'.low ≡ w.low) (same_left : w'.left ≡ w.left) (same_parts : w'.parts ≡ w.parts) (same_total : w'.total ≡ w.total) where
    down_keeps : length w'.window.now ≡ length w.window.now → Keeps w w'
    down_keeps e =
        record { low_stays = same_low; left_stays = same_left; long = e; places_stay = ap (λ t. t.places) same_parts; table = rw same_parts A.walk.table }

    pub handed_down : w.low ≤ child → {r : Bool} → HandedDown w.left (child - w.low) ways w.window.now w'.window.now r → Handed child ways nodes count w w' r
    handed_down l {r} E =
        by_test r
        (λ e. let q = E.is e in
        record {
          keeps = down_keeps (ap length q.1 ∙ length-set w.window.now (child - w.low) (get_or w.window.now (child - w.low) 0 + ways));
          sound = λ y B C D F owed lookup H c s W.
              let same : at B child ≡ at B (w.low + (child - w.low)) = ap (λ k. at B k) (omega arith) in
              (C, rw (same_low, same_left, same_parts, same_total) (ways_down (at B child) (child - w.low) same s q.0 A.within q.1 W));
        })
        (λ e. rw e (handed_not (down_keeps (ap length (E.refuses e)))))

  -- below the window, which stays
  module _ (same_low : w'.low ≡ w.low) (same_left : w'.left ≡ w.left) (same_window : w'.window.now ≡ w.window.now) {number : Option ℕ} (W : Walked Any child 513 nodes count w.parts w'.parts number) where
    pub below_keeps : Keeps w w'
    below_keeps = record { low_stays = same_low; left_stays = same_left; long = ap length same_window; places_stay = W.went.same; table = W.went.table }

    pub handed_below : {k size_is : ℕ} → number ≡ Some k → Some size_is ≡ size_of w'.parts k → w'.total ≡ w.total + ways * size_is → Handed child ways nodes count w w' true
    handed_below {k} {size_is} f ek R =
        record {
          keeps = below_keeps;
          sound = λ y {limit} B C D F owed lookup H c z V'.
              let L = (W.sound B C lookup H c (omega (arith, (within H child c).low, H.limit_low)) tt V'.listed).listed k f in
              let told_is : Some size_is ≡ told (size (at B child)) = ek ∙ number_told L.0 k L.1.0 ∙ ap (λ X. told (size X)) L.1.1 in
              let q = told_some (size (at B child)) size_is told_is in
              let e : w'.total ≡ w.total + ways * size (at B child) = R ∙ ap (λ x. w.total + ways * x) q.1 in
              (place C (at B child), rw (same_low, same_left, same_window) (ways_below (at B child) L.0 e V'));
        }

-- the ways out of `hand_both`: the without-side is {}, or has its ways, or could not be handed them
module _ (p ways : ℕ) (nodes : List ℕ) (count : ℕ) (w w₁ : Passage) (A : BothAsks p nodes count w) where
  -- the two sides
  abbrev z : ℕ
  z = get_or nodes (3 * (p - 2) + 1) 0

  abbrev o : ℕ
  o = get_or nodes (3 * (p - 2) + 2) 0

  pub both_one : z ≡ 0 → {r : Bool} → Handed o ways nodes count w w₁ r → HandedBoth p ways nodes count w w₁ r
  both_one e E =
      record {
        keeps = E.keeps;
        sound = λ y {limit} B C D F lookup H s W.
            E.sound y B C D F [] lookup H (omega (arith, (entry H p A.part (omega (arith, A.held))).one_before, A.held)) s
            (ways_empty (subst (λ X. WaysOf limit B C D F (X ∷ at B o ∷ []) ways w) (ap (λ k. at B k) e ∙ at_0 H) W));
      }

  pub both_not : Handed z ways nodes count w w₁ false → HandedBoth p ways nodes count w w₁ false
  both_not E = record { keeps = E.keeps; sound = λ y. clash y refl }

  pub both_two : Handed z ways nodes count w w₁ true → {w₂ : Passage} {r : Bool} → Handed o ways nodes count w₁ w₂ r → HandedBoth p ways nodes count w w₂ r
  both_two E E₂ =
      record {
        keeps = record {
          low_stays = E₂.keeps.low_stays ∙ E.keeps.low_stays;
          left_stays = E₂.keeps.left_stays ∙ E.keeps.left_stays;
          long = E₂.keeps.long ∙ E.keeps.long;
          places_stay = E₂.keeps.places_stay ∙ E.keeps.places_stay;
          table = E₂.keeps.table;
        };
        sound = λ y B C D F lookup H s W.
            let q = entry H p A.part (omega (arith, A.held)) in
            let a = E.sound refl B C D F (at B o ∷ []) lookup H (omega (arith, q.zero_before, A.held)) s W in
            E₂.sound y B a.0 D F [] lookup H (omega (arith, q.one_before, A.held)) s a.1;
      }

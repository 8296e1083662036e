-- Each way out of the functions that place the local parts: after k turns the store holds its book with the first k
-- families of the local book added, and their handles are known.
-- Adding the families of a family's own book, in its order, is placing that family.
use Prim.Native.Nat.{ℕ, ◌+◌, ◌*◌, ◌-◌, ◌≤◌, ◌<◌}
use mathlib.Core.Path.{◌≡◌, refl, sym, ap, ◌∙◌}
use mathlib.Core.List.{List, [], ◌∷◌, foldl, foldl-append}
use native.Mathlib.Omega.{arith}
use native.Mathlib.Numerals.{add-one}
use lib.ListN.{length, get_or, set, take, drop, length-set, length-drop, take-append-drop}
use lib.Seq.{take-suc, take_all, get_or-drop, get_or-set_same, get_or-set_other}
use Rattle.family.specs.Family.{Family, empty, node, top, Within, largest_item}
use Rattle.family.specs.Book.{start, at, add, place, Grown}
use Rattle.family.proofs.Diagrams.{mk_node}
use Rattle.family.proofs.Books.{add_grown, grown_self, grown_trans, grown_length, grown_at}
use Rattle.family.proofs.Placing.{place_own}
use Rattle.words.proofs.Cases.{by_lt, by_eq}
use Rattle.std.proofs.Common.{Result, Ok, Err}
use Rattle.store.specs.declared.record.Fill.{Fill}
use Rattle.store.specs.declared.record.Unplaced.{Unplaced}
use Rattle.store.specs.Inner.{Reached, reached, Roomy, Holds, Handed, Outcome, gave, Kept}
use Rattle.store_node.specs.Inner.{NodeIt}
use Rattle.store.proofs.Held.{at_0, at_1, held, within}
use Rattle.store.proofs.Growing.{kept_self, kept_trans, kept_roomy}
use Rattle.store.proofs.Answers.{handle_is, handed_of, refused_on, not_both}
use Rattle.store_node.proofs.Getting.{made_inhabited}
use Rattle.store.specs.Words.{word_of}
use Rattle.store.proofs.Handles.{word_leaf, word_node}
use Rattle.file_table.specs.Inner.{Local}
use Rattle.file_place.specs.Inner.{Handles, PartAsks, PartsAsks, PlacedOf}
use Rattle.file_place.proofs.Tops.{Tops, own_tops}

-- a node made of handles that are equal to these
pub node_as : {s : Fill} {nodes lookup nodes' lookup' : List ℕ} {i z o : ℕ} {r : Reached} (z' o' : ℕ) → z ≡ z' → o ≡ o' → NodeIt s nodes lookup i z o r nodes' lookup' → NodeIt s nodes lookup i z' o' r nodes' lookup'
node_as z' o' ez eo N = rw (ez, eo) at N

-- a handle stored after k others
module _ (handles : List ℕ) (k h : ℕ) where
  handle_new : k < length handles → word_of (set handles k h) (k + 2) ≡ h
  handle_new l =
      let e : k + 2 - 2 ≡ k = omega arith in
      sym (word_node (set handles k h) (k + 2) (omega arith)) ∙ rw e (get_or-set_same handles k h 0 l)

  handle_old : (p : ℕ) → p < k + 2 → word_of (set handles k h) p ≡ word_of handles p
  handle_old p l =
      by_lt p 2
      (λ m e. sym (word_leaf (set handles k h) p m) ∙ word_leaf handles p m)
      (λ m e. sym (word_node (set handles k h) p m) ∙ get_or-set_other handles k (p - 2) h 0 (omega arith) ∙ word_node handles p m)

-- adding families one after another
fold_grown : (B Fs : List Family) → Grown B (foldl add B Fs)
fold_grown B [] = grown_self B
fold_grown B (F ∷ Fs) = grown_trans (add_grown B F) (fold_grown (add B F) Fs)

-- the book with the first k families of the local book added
unfoldable pub upto : List Family → List Family → ℕ → List Family
upto B C k = foldl add B (take k (drop 2 C))

upto_none : (B C : List Family) → upto B C 0 ≡ B
unfolding upto
upto_none B C = refl

module _ (B C : List Family) (k : ℕ) (l : k + 2 < length C) where
  upto_next : upto B C (k + 1) ≡ add (upto B C k) (at C (k + 2))
  unfolding upto
  upto_next =
      let e : 2 + k ≡ k + 2 = omega arith in
      ap (λ n. foldl add B (take n (drop 2 C))) (add-one k)
      ∙ ap (λ X. foldl add B X) (take-suc (drop 2 C) k empty (rw length-drop (omega arith)))
      ∙ foldl-append add B (take k (drop 2 C)) (get_or (drop 2 C) k empty ∷ [])
      ∙ ap (λ F. add (foldl add B (take k (drop 2 C))) F) (get_or-drop 2 C k empty ∙ ap (λ n. at C n) e)

upto_grown : (B C : List Family) (k : ℕ) → Grown (upto B C k) (foldl add B (drop 2 C))
unfolding upto
upto_grown B C k =
    let e : foldl add B (drop 2 C) ≡ foldl add (foldl add B (take k (drop 2 C))) (drop k (drop 2 C)) =
    ap (λ X. foldl add B X) (sym (take-append-drop k (drop 2 C))) ∙ foldl-append add B (take k (drop 2 C)) (drop k (drop 2 C)) in
    rw e (fold_grown (foldl add B (take k (drop 2 C))) (drop k (drop 2 C)))

upto_all : (B C : List Family) (n : ℕ) → length C ≡ n + 2 → upto B C n ≡ foldl add B (drop 2 C)
unfolding upto
upto_all B C n e = ap (λ X. foldl add B X) (take_all n (drop 2 C) (rw length-drop (omega arith)))

-- the book of the store after k turns, and what the handles mean in it
pub record Stored (limit : ℕ) (B C : List Family) (k : ℕ) (handles : List ℕ) (count : ℕ) (nodes lookup : List ℕ) : Type 0 where
  pub holds : Holds limit (upto B C k) count nodes lookup
  pub means : (p : ℕ) → p < k + 2 → at (upto B C k) (word_of handles p) ≡ at C p

pub record Turns (s : Fill) (nodes₀ lookup₀ parts handles₀ : List ℕ) (n k : ℕ) (f : Fill) (nodes lookup handles : List ℕ) : Type 0 where
  pub long : length handles ≡ length handles₀
  pub most : k ≤ n
  pub kept : Kept s nodes₀ lookup₀ f nodes lookup
  pub handles_held : Handles k f.count handles
  pub sound : {limit : ℕ} (B C : List Family) (slots : List ℕ) → Tops limit C → Holds limit B s.count nodes₀ lookup₀ → Local C n parts slots → Stored limit B C k handles f.count nodes lookup

module _ (s : Fill) (nodes₀ lookup₀ parts handles₀ : List ℕ) (n : ℕ) where
  pub turns_start : Roomy s nodes₀ lookup₀ → Turns s nodes₀ lookup₀ parts handles₀ n 0 s nodes₀ lookup₀ handles₀
  turns_start R =
      record {
        long = refl;
        most = omega arith;
        kept = kept_self s nodes₀ lookup₀ R.within;
        handles_held = record { each = λ p l. omega (arith, word_leaf handles₀ p l) };
        sound = λ B C slots t H L. record { holds = rw (upto_none B C) H; means = λ p l. rw (upto_none B C, ← word_leaf handles₀ p l) (leaf_at B C slots H L p l) };
      }
    where
      leaf_at : {limit : ℕ} (B C : List Family) (slots : List ℕ) → Holds limit B s.count nodes₀ lookup₀ → Local C n parts slots → (p : ℕ) → p < 0 + 2 → at B p ≡ at C p
      leaf_at B C slots H L p l =
          by_eq p 0
          (λ e t. rw e (at_0 H ∙ sym (at_0 L)))
          (λ d t. let e : p ≡ 1 = omega arith in rw e (at_1 H ∙ sym (at_1 L)))

module _ {s : Fill} {nodes₀ lookup₀ parts handles₀ : List ℕ} {n : ℕ} (A : PartsAsks s nodes₀ lookup₀ parts handles₀ n) {k : ℕ} {f : Fill} {nodes lookup handles : List ℕ} (I : Turns s nodes₀ lookup₀ parts handles₀ n k f nodes lookup handles) where
  -- a local book that is its last family's own keeps to a limit where that family does
  last_tops : (C : List Family) {slots : List ℕ} → Local C n parts slots → place start (at C (n + 1)) ≡ C → {limit : ℕ} → top (at C (n + 1)) ≤ limit → Tops limit C
  last_tops C L own m = own_tops (at C (n + 1)) (within L (n + 1) (omega arith)).ordered own m

  module _ (l : k < n) where
    -- what the turn asks
    pub turns_asks : PartAsks f nodes lookup parts handles k
    turns_asks =
        record {
          roomy = kept_roomy I.kept A.roomy;
          local = A.local.each k l;
          handles_held = I.handles_held;
          words = omega (arith, A.words);
          below = omega (arith, A.few, I.long);
        }

    module _ {f₁ : Fill} (a : Result ℕ Unplaced) {nodes₁ lookup₁ : List ℕ}
        (P : NodeIt f nodes lookup (get_or parts (3 * k) 0) (word_of handles (get_or parts (3 * k + 1) 0)) (word_of handles (get_or parts (3 * k + 2) 0)) (reached f₁ a) nodes₁ lookup₁) where
      kept_on : Kept s nodes₀ lookup₀ f₁ nodes₁ lookup₁
      kept_on = kept_trans I.kept P.kept

      -- what the turn gives, in the book so far
      module _ {limit : ℕ} (B C : List Family) {slots : List ℕ} (t : Tops limit C) (H : Holds limit B s.count nodes₀ lookup₀) (L : Local C n parts slots) where
        S : Stored limit B C k handles f.count nodes lookup
        S = I.sound B C slots t H L

        zero_is : at (upto B C k) (word_of handles (get_or parts (3 * k + 1) 0)) ≡ at C (get_or parts (3 * k + 1) 0)
        zero_is = S.means (get_or parts (3 * k + 1) 0) (A.local.each k l).zero_before

        one_is : at (upto B C k) (word_of handles (get_or parts (3 * k + 2) 0)) ≡ at C (get_or parts (3 * k + 2) 0)
        one_is = S.means (get_or parts (3 * k + 2) 0) (A.local.each k l).one_before

        family_is : at C (k + 2) ≡ node (get_or parts (3 * k) 0) (at (upto B C k) (word_of handles (get_or parts (3 * k + 1) 0))) (at (upto B C k) (word_of handles (get_or parts (3 * k + 2) 0)))
        family_is = (L.each k l).is ∙ rw (zero_is, one_is)

        is_within : Within largest_item (node (get_or parts (3 * k) 0) (at (upto B C k) (word_of handles (get_or parts (3 * k + 1) 0))) (at (upto B C k) (word_of handles (get_or parts (3 * k + 2) 0))))
        is_within = rw family_is at (within L (k + 2) (omega arith))

        item_low : get_or parts (3 * k) 0 ≤ limit
        item_low = omega (arith, ap top family_is, t.each (at C (k + 2)) (held L (k + 2) (omega arith)))

        turn_answer : Outcome limit (add (upto B C k) (at C (k + 2))) (at C (k + 2)) s.capacity f₁.count nodes₁ lookup₁ a
        turn_answer =
            let o = is_within.ordered in
            rw (family_is, ← I.kept.same_capacity)
            (rw (
              mk_node (get_or parts (3 * k) 0) (at (upto B C k) (word_of handles (get_or parts (3 * k + 1) 0))) (at (upto B C k) (word_of handles (get_or parts (3 * k + 2) 0))) o.2,
              made_inhabited (upto B C k) (get_or parts (3 * k) 0) (at (upto B C k) (word_of handles (get_or parts (3 * k + 1) 0))) (at (upto B C k) (word_of handles (get_or parts (3 * k + 2) 0))) o.2,
            ) at
            (P.sound (upto B C k) item_low S.holds o.0 o.1))

        inside_local : k + 2 < length C
        inside_local = omega (arith, L.size)

      module _ {h : ℕ} (e : a ≡ Ok h) where
        below : k < length handles
        below = omega (arith, A.few, I.long)

        next : Handles (k + 1) f₁.count (set handles k h)
        next =
            record {
              each = λ p m. by_eq p (k + 2)
                  (λ q t. rw (q, handle_new handles k h below) (P.handle h e))
                  (λ d t. rw (handle_old handles k h p (omega arith)) (omega (arith, I.handles_held.each p (omega arith), P.kept.grows)));
            }

        stored : {limit : ℕ} (B C : List Family) (slots : List ℕ) → Tops limit C → Holds limit B s.count nodes₀ lookup₀ → Local C n parts slots → Stored limit B C (k + 1) (set handles k h) f₁.count nodes₁ lookup₁
        stored B C slots t H L =
            let G = handed_of e (turn_answer B C t H L) in
            let old = S B C t H L in
            record {
              holds = rw (upto_next B C k (inside_local B C t H L)) G.holds;
              means = λ p m. rw (upto_next B C k (inside_local B C t H L)) (by_eq p (k + 2)
                  (λ q t. rw (q, handle_new handles k h below) G.means)
                  (λ d t. rw (handle_old handles k h p (omega arith))
                  (grown_at (add_grown (upto B C k) (at C (k + 2))) (word_of handles p) (omega (arith, I.handles_held.each p (omega arith), old.holds.size)) ∙ old.means p (omega arith))));
            }

        pub turns_next : Turns s nodes₀ lookup₀ parts handles₀ n (k + 1) f₁ nodes₁ lookup₁ (set handles k h)
        turns_next = record { long = length-set handles k h ∙ I.long; most = omega arith; kept = kept_on; handles_held = next; sound = stored }

      pub turns_refused : {x : Unplaced} → a ≡ Err x → PlacedOf s nodes₀ lookup₀ parts handles₀ n (reached f₁ a) nodes₁ lookup₁ handles
      turns_refused {x} q =
          record {
            long = I.long;
            kept = kept_on;
            ran = λ C slots L own. record {
              kept = kept_on;
              handle = λ h d. not_both h x d q;
              sound = λ B m H.
                  let t = last_tops C L own m in
                  refused_on x q (longer C L own B t H) (turn_answer B C t H L);
            };
          }
        where
          longer : (C : List Family) {slots : List ℕ} → Local C n parts slots → place start (at C (n + 1)) ≡ C → {limit : ℕ} (B : List Family) → Tops limit C → Holds limit B s.count nodes₀ lookup₀
              → length (add (upto B C k) (at C (k + 2))) ≤ length (place B (at C (n + 1)))
          longer C L own B t H =
              rw (← upto_next B C k (inside_local B C t H L), ← place_own B (at C (n + 1)) H.book, own) (grown_length (upto_grown B C (k + 1)))

  module _ (m : n ≤ k) where
    all : k ≡ n
    all = omega (arith, I.most)

    pub turns_done : (h : ℕ) → h ≡ word_of handles (n + 1) → PlacedOf s nodes₀ lookup₀ parts handles₀ n (reached f (Ok h)) nodes lookup handles
    turns_done h eh =
        record {
          long = I.long;
          kept = I.kept;
          ran = λ C slots L own. record {
            kept = I.kept;
            handle = λ g e. omega (arith, handle_is e, last);
            sound = λ B m H. rw eh (gave {h = word_of handles (n + 1)} (handed C L own B (last_tops C L own m) H));
          };
        }
      where
        last : word_of handles (n + 1) ≤ f.count + 1
        last = I.handles_held.each (n + 1) (omega (arith, all))

        handed : (C : List Family) {slots : List ℕ} → Local C n parts slots → place start (at C (n + 1)) ≡ C → {limit : ℕ} (B : List Family) → Tops limit C → Holds limit B s.count nodes₀ lookup₀
            → Handed limit (place B (at C (n + 1))) (at C (n + 1)) (word_of handles (n + 1)) f.count nodes lookup
        handed C {slots} L own B t H =
            let S = I.sound B C slots t H L in
            let e : place B (at C (n + 1)) ≡ upto B C k = sym (place_own B (at C (n + 1)) H.book) ∙ ap (λ X. foldl add B (drop 2 X)) own ∙ sym (upto_all B C n L.size) ∙ ap (λ j. upto B C j) (sym all) in
            rw e record { holds = S.holds; within = omega (arith, last); means = S.means (n + 1) (omega (arith, all)) }

-- Combinations as falling lists: which items they hold decides them, and what taking an item out leaves, and putting
-- one in.
-- A falling list holds nothing above its first item, so two of them with the same items agree from the front on.
use Prim.Native.Nat.{ℕ, max, ◌≤◌, ◌<◌}
use mathlib.Core.Path.{◌≡◌, refl, sym, ap, ◌∙◌}
use mathlib.Core.Bool.{Bool, true, false, not, ◌&&◌, ◌||◌}
use mathlib.Core.List.{List, [], ◌∷◌}
use native.Mathlib.Omega.{arith}
use lib.Dec.{eqb}
use borrow.Author.Tests.{eq-eqb, ne_eqb}
use Rattle.family.specs.Combination.{largest, Falling, holds, insert, remove}
use Rattle.words.proofs.Cases.{by_eq, by_lt, by_order, clash}

pub holds_high : (v : ℕ) (c : List ℕ) → Falling c → largest c < v → holds v c ≡ false
holds_high v [] h l = refl
holds_high v (x ∷ c) h l = rw (ne_eqb x v (omega arith)) (holds_high v c h.1 (omega arith))

pub holds_zero : (c : List ℕ) → Falling c → holds 0 c ≡ false
holds_zero [] h = refl
holds_zero (x ∷ c) h = rw (ne_eqb x 0 (omega arith)) (holds_zero c h.1)

holds_first : (x : ℕ) (c : List ℕ) → holds x (x ∷ c) ≡ true
holds_first x c = rw (eq-eqb x x refl)

pub falling_ext : (c d : List ℕ) → Falling c → Falling d → ((v : ℕ) → holds v c ≡ holds v d) → c ≡ d
falling_ext [] [] h k f = refl
falling_ext [] (y ∷ d) h k f = clash (f y ∙ holds_first y d) refl
falling_ext (x ∷ c) [] h k f = clash (sym (f x) ∙ holds_first x c) refl
falling_ext (x ∷ c) (y ∷ d) h k f =
    by_order x y
    (λ p l e. clash (f y ∙ holds_first y d) (holds_high y (x ∷ c) h p))
    (λ p l e. rw (p, falling_ext c d h.1 k.1 (tails p)))
    (λ p l e. clash (sym (f x) ∙ holds_first x c) (holds_high x (y ∷ d) k p))
  where
    tails : x ≡ y → (v : ℕ) → holds v c ≡ holds v d
    tails p v =
        by_eq x v
        (λ q e. holds_high v c h.1 (omega arith) ∙ sym (holds_high v d k.1 (omega arith)))
        (λ q e. rw (e, ne_eqb y v (λ r. q (p ∙ r))) at (f v))

-- taking an item out
pub remove_falling : (v : ℕ) (c : List ℕ) → Falling c → Falling (remove v c) × (largest (remove v c) ≤ largest c)
remove_falling v [] h = (tt, omega arith)
remove_falling v (x ∷ c) h =
    let q = remove_falling v c h.1 in
    by_eq x v (λ p e. rw e (h.1, omega arith)) (λ p e. rw e ((omega arith, q.0), omega arith))

pub holds_remove : (v u : ℕ) (c : List ℕ) → Falling c → holds u (remove v c) ≡ not (eqb v u) && holds u c
holds_remove v u [] h = by_eq v u (λ p e. rw e) (λ p e. rw e)
holds_remove v u (x ∷ c) h =
    by_eq x v
    (λ p e. rw e (by_eq v u
    (λ q d. rw d (holds_high u c h.1 (omega arith)))
    (λ q d. rw (d, ne_eqb x u (λ r. q (sym p ∙ r))))))
    (λ p e. rw (e, holds_remove v u c h.1) (by_eq v u
    (λ q d. rw (d, ne_eqb x u (λ r. p (r ∙ sym q))))
    (λ q d. rw d)))

pub remove_absent : (v : ℕ) (c : List ℕ) → holds v c ≡ false → remove v c ≡ c
remove_absent v [] e = refl
remove_absent v (x ∷ c) e =
    by_eq x v (λ p d. clash (eq_true d) e) (λ p d. rw d (ap (λ y. x ∷ y) (remove_absent v c (rw d at e))))
  where
    eq_true : eqb x v ≡ true → holds v (x ∷ c) ≡ true
    eq_true d = rw d

-- putting an item in
pub insert_falling : (v : ℕ) (c : List ℕ) → 0 < v → Falling c → holds v c ≡ false → Falling (insert v c) × (largest (insert v c) ≤ max v (largest c))
insert_falling v [] n h e = ((n, tt), omega arith)
insert_falling v (x ∷ c) n h e =
    by_order x v
    (λ p l d. rw l ((p, h), omega arith))
    (λ p l d. clash (same p) e)
    (λ p l d. let q = insert_falling v c n h.1 (rw d at e) in rw l ((omega (arith, q.1), q.0), omega arith))
  where
    same : x ≡ v → holds v (x ∷ c) ≡ true
    same p = rw (eq-eqb x v p)

pub holds_insert : (v u : ℕ) (c : List ℕ) → holds u (insert v c) ≡ eqb v u || holds u c
holds_insert v u [] = refl
holds_insert v u (x ∷ c) =
    by_lt x v (λ p l. rw l) (λ p l. rw (l, holds_insert v u c) (swap (eqb x u) (eqb v u) (holds u c)))
  where
    swap : (a b d : Bool) → a || (b || d) ≡ b || (a || d)
    swap true true d = refl
    swap true false d = refl
    swap false b d = refl

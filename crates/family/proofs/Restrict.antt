-- Subset1, Subset0 and Change: membership of what they give, and the equations that a recursion on two sides follows.
-- Each is an induction on the family with three cases, the node's item below, at and above v.
use mathlib.Core.Path.{◌≡◌, refl, sym, ap, ◌∙◌}
use Prim.Native.Nat.{ℕ, ◌≤◌, ◌<◌, max}
use mathlib.Core.Bool.{false, cond, not, ◌&&◌, and-false}
use mathlib.Core.List.{List, [], ◌∷◌}
use native.Mathlib.Omega.{arith}
use lib.Dec.{eqb, ltb}
use borrow.Author.Tests.{eq-eqb, ne_eqb, lt-ltb, le-ltb}
use Rattle.family.specs.Family.{Family, empty, base, node, top, Ordered, Within, has, mk}
use Rattle.family.specs.Combination.{largest, Falling, holds, insert, toggle}
use Rattle.family.specs.Operation.{subset1, subset0, change}
use Rattle.words.proofs.Cases.{by_test, by_eq, by_lt, by_order}
use Rattle.family.proofs.Falling.{holds_high}
use Rattle.family.proofs.Diagrams.{within_self, within_more, within_mk, has_mk, has_above}

-- the results keep the order; Subset1 and Subset0 add no item
low_subset1 : (v : ℕ) (F : Family) → Ordered F → Within (top F) (subset1 v F)
low_subset1 v empty h = record { ordered = tt; low = omega arith }
low_subset1 v base h = record { ordered = tt; low = omega arith }
low_subset1 v (node i a b) h =
    by_order i v
    (λ p l e. rw l record { ordered = tt; low = omega arith })
    (λ p l e. rw (l, e) record { ordered = h.4; low = omega arith })
    (λ p l e. rw (l, e) (within_mk (low_subset1 v a h.3) (low_subset1 v b h.4) h.0 h.1))

low_subset0 : (v : ℕ) (F : Family) → Ordered F → Within (top F) (subset0 v F)
low_subset0 v empty h = record { ordered = tt; low = omega arith }
low_subset0 v base h = record { ordered = tt; low = omega arith }
low_subset0 v (node i a b) h =
    by_order i v
    (λ p l e. rw l (within_self (node i a b) h))
    (λ p l e. rw (l, e) record { ordered = h.3; low = omega arith })
    (λ p l e. rw (l, e) (within_mk (low_subset0 v a h.3) (low_subset0 v b h.4) h.0 h.1))

low_change : (v : ℕ) (F : Family) → 0 < v → Ordered F → Within (max v (top F)) (change v F)
low_change v empty n h = record { ordered = tt; low = omega arith }
low_change v base n h = record { ordered = (n, n, tt, tt, tt); low = omega arith }
low_change v (node i a b) n h =
    by_order i v
    (λ p l e. rw l record { ordered = (omega arith, p, tt, tt, h); low = omega arith })
    (λ p l e. rw (l, e) (within_more (max v i) (within_mk {i = i} (within_self b h.4) (within_self a h.3) h.1 h.0) (omega arith)))
    (λ p l e. rw (l, e) (within_more (max v i) (within_mk {i = i} (low_change v a n h.3) (low_change v b n h.4) (omega arith) (omega arith)) (omega arith)))

pub within_subset1 : {t : ℕ} (v : ℕ) (F : Family) → Within t F → Within t (subset1 v F)
within_subset1 {t} v F h = within_more t (low_subset1 v F h.ordered) h.low

pub within_subset0 : {t : ℕ} (v : ℕ) (F : Family) → Within t F → Within t (subset0 v F)
within_subset0 {t} v F h = within_more t (low_subset0 v F h.ordered) h.low

pub within_change : {t : ℕ} (v : ℕ) (F : Family) → 0 < v → v ≤ t → Within t F → Within t (change v F)
within_change {t} v F n m h = within_more t (low_change v F n h.ordered) (omega arith)

-- membership at a node, and of combinations with a large item
has_skip : (i : ℕ) (a b : Family) (c : List ℕ) → (largest c ≡ i → ⊥) → has (node i a b) c ≡ has a c
has_skip i a b [] n = refl
has_skip i a b (x ∷ c) n = rw (ne_eqb x i n)

has_high : (F : Family) (c : List ℕ) → Ordered F → top F < largest c → has F c ≡ false
has_high F [] h l = absurd (omega arith)
has_high F (x ∷ c) h l = has_above F x c h l

-- Subset0
pub has_subset0 : (v : ℕ) (F : Family) (c : List ℕ) → Ordered F → Falling c → has (subset0 v F) c ≡ not (holds v c) && has F c
has_subset0 v empty c h k = sym (and-false (not (holds v c)))
has_subset0 v base [] h k = refl
has_subset0 v base (x ∷ c) h k = sym (and-false (not (holds v (x ∷ c))))
has_subset0 v (node i a b) [] h k =
    by_order i v (λ p l e. rw l) (λ p l e. rw (l, e))
    (λ p l e. rw (l, e, has_mk {i = i} (subset0 v b) [] (low_subset0 v a h.3) h.0) (has_subset0 v a [] h.3 tt))
has_subset0 v (node i a b) (x ∷ c) h k =
    by_order i v
    (λ p l e. rw l (below p))
    (λ p l e. rw (l, e)
    (by_order x v
    (λ q m d. rw (d, holds_high v c k.1 (omega arith), ne_eqb x i (omega arith)))
    (λ q m d. rw (d, has_above a x c h.3 (omega arith)))
    (λ q m d. rw (ne_eqb x i (omega arith), has_above a x c h.3 (omega arith), and-false))))
    (λ p l e. rw (l, e, has_mk {i = i} (subset0 v b) (x ∷ c) (low_subset0 v a h.3) h.0)
    (by_eq x i (λ q d. rw (d, ne_eqb x v (omega arith)) (has_subset0 v b c h.4 k.1)) (λ q d. rw d (has_subset0 v a (x ∷ c) h.3 k))))
  where
    below : i < v → has (node i a b) (x ∷ c) ≡ not (holds v (x ∷ c)) && has (node i a b) (x ∷ c)
    below p =
        by_lt x v (λ q e. rw (holds_high v (x ∷ c) k q))
        (λ q e. rw (has_above (node i a b) x c h (omega arith), and-false))

-- an item put in or taken out, in one pass
abbrev flip : ℕ → List ℕ → List ℕ
flip v [] = v ∷ []
flip v (x ∷ c) = cond (ltb x v) (v ∷ x ∷ c) (cond (eqb x v) c (x ∷ flip v c))

flip_toggle : (v : ℕ) (c : List ℕ) → Falling c → flip v c ≡ toggle v c
flip_toggle v [] k = refl
flip_toggle v (x ∷ c) k =
    by_order x v
    (λ q m d. rw (d, holds_high v c k.1 (omega arith), m))
    (λ q m d. rw (m, d))
    (λ q m d. rw (m, d, flip_toggle v c k.1) (by_test (holds v c) (λ e. rw e) (λ e. rw e)))

largest_flip : (v i : ℕ) (c : List ℕ) → Falling c → v < i → (largest c ≡ i → ⊥) → largest (flip v c) ≡ i → ⊥
largest_flip v i [] k l n = omega arith
largest_flip v i (x ∷ c) k l n = by_order x v (λ q m d. rw m (omega arith)) (λ q m d. rw (m, d) (omega arith)) (λ q m d. rw (m, d) n)

-- Subset1
high_subset1 : (v : ℕ) (F : Family) (c : List ℕ) → Ordered F → top F < v → false ≡ not (holds v c) && has F (flip v c)
high_subset1 v F [] h l = rw (has_above F v [] h l)
high_subset1 v F (x ∷ c) h l =
    by_order x v
    (λ q m d. rw (m, has_above F v (x ∷ c) h l, and-false))
    (λ q m d. rw d)
    (λ q m d. rw (m, d, has_above F x (flip v c) h (omega arith), and-false))

flip_subset1 : (v : ℕ) (F : Family) (c : List ℕ) → 0 < v → Ordered F → Falling c → has (subset1 v F) c ≡ not (holds v c) && has F (flip v c)
flip_subset1 v empty c n h k = high_subset1 v empty c h n
flip_subset1 v base c n h k = high_subset1 v base c h n
flip_subset1 v (node i a b) [] n h k =
    by_order i v
    (λ p l e. rw l (high_subset1 v (node i a b) [] h p))
    (λ p l e. rw (l, e, eq-eqb v i (sym p)))
    (λ p l e. rw (l, e, has_mk {i = i} (subset1 v b) [] (low_subset1 v a h.3) h.0, ne_eqb v i (omega arith)) (flip_subset1 v a [] n h.3 tt))
flip_subset1 v (node i a b) (x ∷ c) n h k =
    by_order i v
    (λ p l e. rw l (high_subset1 v (node i a b) (x ∷ c) h p))
    (λ p l e. rw (l, e)
    (by_order x v
    (λ q m d. rw (m, d, holds_high v c k.1 (omega arith), eq-eqb v i (sym p)))
    (λ q m d. rw (d, has_above b x c h.4 (omega arith)))
    (λ q m d. rw (m, d, ne_eqb x i (omega arith), has_above b x c h.4 (omega arith), has_above a x (flip v c) h.3 (omega arith), and-false))))
    (λ p l e. rw (l, e, has_mk {i = i} (subset1 v b) (x ∷ c) (low_subset1 v a h.3) h.0)
    (by_eq x i
    (λ q d. rw (d, le-ltb x v (omega arith), ne_eqb x v (omega arith), d) (flip_subset1 v b c n h.4 k.1))
    (λ q d. rw (d, has_skip i a b (flip v (x ∷ c)) (largest_flip v i (x ∷ c) k p q)) (flip_subset1 v a (x ∷ c) n h.3 k))))

pub has_subset1 : (v : ℕ) (F : Family) (c : List ℕ) → 0 < v → Ordered F → Falling c → has (subset1 v F) c ≡ not (holds v c) && has F (insert v c)
has_subset1 v F c n h k =
    flip_subset1 v F c n h k
    ∙ by_test (holds v c) (λ e. rw e) (λ e. rw e (ap (λ d. has F d) (flip_toggle v c k ∙ rw e)))

-- Change
high_change : (v : ℕ) (F : Family) (c : List ℕ) → Ordered F → top F < v → has (node v empty F) c ≡ has F (flip v c)
high_change v F [] h l = rw (has_above F v [] h l)
high_change v F (x ∷ c) h l =
    by_order x v
    (λ q m d. rw (m, d, has_above F v (x ∷ c) h l))
    (λ q m d. rw (m, d))
    (λ q m d. rw (m, d, has_above F x (flip v c) h (omega arith)))

flip_change : (v : ℕ) (F : Family) (c : List ℕ) → 0 < v → Ordered F → Falling c → has (change v F) c ≡ has F (flip v c)
flip_change v empty c n h k = refl
flip_change v base c n h k = high_change v base c h n
flip_change v (node i a b) [] n h k =
    by_order i v
    (λ p l e. rw l (high_change v (node i a b) [] h p))
    (λ p l e. rw (l, e, has_mk {i = i} a [] (within_self b h.4) h.1, eq-eqb v i (sym p)))
    (λ p l e. rw (l, e, has_mk {i = i} (change v b) [] (low_change v a n h.3) (omega arith), ne_eqb v i (omega arith)) (flip_change v a [] n h.3 tt))
flip_change v (node i a b) (x ∷ c) n h k =
    by_order i v
    (λ p l e. rw l (high_change v (node i a b) (x ∷ c) h p))
    (λ p l e. rw (l, e, has_mk {i = i} a (x ∷ c) (within_self b h.4) h.1)
    (by_order x v
    (λ q m d. rw (m, ne_eqb x i (omega arith), eq-eqb v i (sym p)))
    (λ q m d. rw (m, d, eq-eqb x i (omega arith)) (sym (has_skip i a b c (omega arith))))
    (λ q m d. rw (m, d, ne_eqb x i (omega arith), has_above b x c h.4 (omega arith), has_above a x (flip v c) h.3 (omega arith)))))
    (λ p l e. rw (l, e, has_mk {i = i} (change v b) (x ∷ c) (low_change v a n h.3) (omega arith))
    (by_eq x i
    (λ q d. rw (d, le-ltb x v (omega arith), ne_eqb x v (omega arith), d) (flip_change v b c n h.4 k.1))
    (λ q d. rw (d, has_skip i a b (flip v (x ∷ c)) (largest_flip v i (x ∷ c) k p q)) (flip_change v a (x ∷ c) n h.3 k))))

pub has_change : (v : ℕ) (F : Family) (c : List ℕ) → 0 < v → Ordered F → Falling c → has (change v F) c ≡ has F (toggle v c)
has_change v F c n h k = flip_change v F c n h k ∙ ap (λ d. has F d) (flip_toggle v c k)

-- the equations that a recursion on two sides follows
module _ (v : ℕ) where
  pub subset1_low : (F : Family) → top F < v → subset1 v F ≡ empty
  subset1_low empty l = refl
  subset1_low base l = refl
  subset1_low (node i a b) l = rw (lt-ltb i v l)

  pub subset0_low : (F : Family) → top F < v → subset0 v F ≡ F
  subset0_low empty l = refl
  subset0_low base l = refl
  subset0_low (node i a b) l = rw (lt-ltb i v l)

  pub change_low : (F : Family) → top F < v → change v F ≡ mk v empty F
  change_low empty l = refl
  change_low base l = refl
  change_low (node i a b) l = rw (lt-ltb i v l)

  module _ (i : ℕ) (a b : Family) where
    module _ (e : i ≡ v) where
      pub subset1_at : subset1 v (node i a b) ≡ b
      subset1_at = rw (le-ltb i v (omega arith), eq-eqb i v e)

      pub subset0_at : subset0 v (node i a b) ≡ a
      subset0_at = rw (le-ltb i v (omega arith), eq-eqb i v e)

      pub change_at : change v (node i a b) ≡ mk i b a
      change_at = rw (le-ltb i v (omega arith), eq-eqb i v e)

    module _ (l : v < i) where
      pub subset1_high : subset1 v (node i a b) ≡ mk i (subset1 v a) (subset1 v b)
      subset1_high = rw (le-ltb i v (omega arith), ne_eqb i v (omega arith))

      pub subset0_high : subset0 v (node i a b) ≡ mk i (subset0 v a) (subset0 v b)
      subset0_high = rw (le-ltb i v (omega arith), ne_eqb i v (omega arith))

      pub change_high : change v (node i a b) ≡ mk i (change v a) (change v b)
      change_high = rw (le-ltb i v (omega arith), ne_eqb i v (omega arith))

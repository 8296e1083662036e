-- Union, Intsec and Diff: membership of what they give, and the equations that a recursion on two sides follows.
-- All three are one operation by level with a rule f on memberships, so each law is proved once, for every f that
-- leaves out what neither family has.
use mathlib.Core.Path.{◌≡◌, refl, sym, ap, ap₂, ◌∙◌}
use Prim.Native.Nat.{ℕ, zero, suc, ◌≤◌, ◌<◌, max}
use mathlib.Core.Bool.{Bool, false, ◌&&◌, ◌||◌, and-false, or-false, and-true, or_self, and_self, and-not_self}
use mathlib.Core.List.{List, [], ◌∷◌}
use native.Mathlib.Omega.{arith}
use borrow.Author.Tests.{eq-eqb}
use Rattle.family.specs.Family.{Family, empty, node, top, Ordered, Within, has, mk}
use Rattle.family.specs.Operation.{lacking, holding, is_base, leaf, apply, combine, union, intsec, diff, minus}
use Rattle.words.proofs.Cases.{by_eq}
use Rattle.family.proofs.Diagrams.{within_self, within_more, within_leaf, within_mk, within_lacking, within_holding, lacking_above, holding_above, has_mk, has_sides, leaf_nil, leaf_cons, is_leaf}
use Rattle.family.proofs.Canonical.{canonical}

pub apply_within : (f : Bool → Bool → Bool) (t : ℕ) (F G : Family) → Within t (apply f t F G)
apply_within f zero F G = within_leaf 0 (f (is_base F) (is_base G))
apply_within f (suc t) F G =
    within_mk (apply_within f t (lacking (suc t) F) (lacking (suc t) G)) (apply_within f t (holding (suc t) F) (holding (suc t) G)) (omega arith) (omega arith)

module _ (f : Bool → Bool → Bool) (z : f false false ≡ false) where
  has_leaves : (p q : Bool) (c : List ℕ) → has (leaf (f p q)) c ≡ f (has (leaf p) c) (has (leaf q) c)
  has_leaves p q [] = simp leaf_nil
  has_leaves p q (x ∷ c) = simp (leaf_cons, z)

  has_node : (t : ℕ) (F G : Family) (c : List ℕ) → has (apply f (suc t) F G) c
      ≡ has (node (suc t) (apply f t (lacking (suc t) F) (lacking (suc t) G)) (apply f t (holding (suc t) F) (holding (suc t) G))) c
  has_node t F G c =
      has_mk {i = suc t} (apply f t (holding (suc t) F) (holding (suc t) G)) c (apply_within f t (lacking (suc t) F) (lacking (suc t) G)) (omega arith)

  has_apply : (t : ℕ) {F G : Family} (c : List ℕ) → Within t F → Within t G → has (apply f t F G) c ≡ f (has F c) (has G c)
  has_apply zero {F} {G} c hF hG = cc (has_leaves (is_base F) (is_base G) c, is_leaf hF, is_leaf hG)
  has_apply (suc t) {F} {G} [] hF hG =
      rw (has_node t F G [], has_sides [] hF, has_sides [] hG) (has_apply t [] (within_lacking hF) (within_lacking hG))
  has_apply (suc t) {F} {G} (x ∷ c) hF hG =
      rw (has_node t F G (x ∷ c), has_sides (x ∷ c) hF, has_sides (x ∷ c) hG)
      (by_eq x (suc t) (λ p e. rw e (has_apply t c (within_holding hF) (within_holding hG)))
      (λ p e. rw e (has_apply t (x ∷ c) (within_lacking hF) (within_lacking hG))))

  -- a level above both tops changes nothing
  apply_nothing : (t : ℕ) → apply f t empty empty ≡ empty
  apply_nothing zero = rw z
  apply_nothing (suc t) = rw (apply_nothing t)

  apply_level : {s : ℕ} (t : ℕ) {F G : Family} → Within s F → Within s G → s ≤ t → apply f t F G ≡ apply f s F G
  apply_level {s} zero {F} {G} hF hG l = let p : s ≡ 0 = omega arith in rw p
  apply_level {s} (suc t) {F} {G} hF hG l =
      by_eq s (suc t)
      (λ p e. ap (λ k. apply f k F G) (sym p))
      (λ p e. up (within_more t hF (omega arith)) (within_more t hG (omega arith)) ∙ apply_level t hF hG (omega arith))
    where
      up : Within t F → Within t G → apply f (suc t) F G ≡ apply f t F G
      up u v = rw (lacking_above u, lacking_above v, holding_above u, holding_above v, apply_nothing t)

  combine_level : {t : ℕ} {F G : Family} → Within t F → Within t G → apply f t F G ≡ combine f F G
  unfolding combine
  combine_level {t} {F} {G} hF hG =
      apply_level {s = max (top F) (top G)} t (record { ordered = hF.ordered; low = omega arith }) (record { ordered = hG.ordered; low = omega arith }) (omega arith)

  -- membership, and the limit
  pub has_combine : (F G : Family) (c : List ℕ) → Ordered F → Ordered G → has (combine f F G) c ≡ f (has F c) (has G c)
  unfolding combine
  has_combine F G c hF hG = has_apply (max (top F) (top G)) c (record { ordered = hF; low = omega arith }) (record { ordered = hG; low = omega arith })

  pub within_combine : {t : ℕ} (F G : Family) → Within t F → Within t G → Within t (combine f F G)
  unfolding combine
  within_combine {t} F G hF hG = within_more t (apply_within f (max (top F) (top G)) F G) (omega arith)

  -- one step, at an item that is not below either top
  pub combine_step : {t : ℕ} {F G : Family} → Within (suc t) F → Within (suc t) G
      → combine f F G ≡ mk (suc t) (combine f (lacking (suc t) F) (lacking (suc t) G)) (combine f (holding (suc t) F) (holding (suc t) G))
  combine_step {t} hF hG =
      sym (combine_level hF hG) ∙ ap₂ (mk (suc t)) (combine_level (within_lacking hF) (within_lacking hG)) (combine_level (within_holding hF) (within_holding hG))

  pub combine_left : (i : ℕ) (a b G : Family) → Ordered (node i a b) → Ordered G → top G < i → combine f (node i a b) G ≡ mk i (combine f a G) (combine f b empty)
  combine_left zero a b G h g l = absurd (omega arith)
  combine_left (suc t) a b G h g l =
      let u : Within t G = record { ordered = g; low = omega arith } in
      combine_step (within_self (node (suc t) a b) h) (within_more (suc t) u (omega arith)) ∙ rw (eq-eqb (suc t) (suc t) refl, lacking_above u, holding_above u)

  pub combine_right : (i : ℕ) (a b G : Family) → Ordered (node i a b) → Ordered G → top G < i → combine f G (node i a b) ≡ mk i (combine f G a) (combine f empty b)
  combine_right zero a b G h g l = absurd (omega arith)
  combine_right (suc t) a b G h g l =
      let u : Within t G = record { ordered = g; low = omega arith } in
      combine_step (within_more (suc t) u (omega arith)) (within_self (node (suc t) a b) h) ∙ rw (eq-eqb (suc t) (suc t) refl, lacking_above u, holding_above u)

  pub combine_both : (i : ℕ) (a b c d : Family) → Ordered (node i a b) → Ordered (node i c d) → combine f (node i a b) (node i c d) ≡ mk i (combine f a c) (combine f b d)
  combine_both zero a b c d h g = absurd (omega arith)
  combine_both (suc t) a b c d h g = combine_step (within_self (node (suc t) a b) h) (within_self (node (suc t) c d) g) ∙ rw (eq-eqb (suc t) (suc t) refl)

  -- a result, named by its members
  pub combine_is : (F G H : Family) → Ordered F → Ordered G → Ordered H → ((c : List ℕ) → f (has F c) (has G c) ≡ has H c) → combine f F G ≡ H
  unfolding combine
  combine_is F G H hF hG hH h = canonical (combine f F G) H (apply_within f (max (top F) (top G)) F G).ordered hH (λ c k. has_combine F G c hF hG ∙ h c)

-- the cases at which a recursion stops: document 001's terminal cases
pub union_empty : (F : Family) → Ordered F → union F empty ≡ F
union_empty F h = combine_is ◌||◌ refl F empty F h tt h (λ c. or-false (has F c))

pub empty_union : (F : Family) → Ordered F → union empty F ≡ F
empty_union F h = combine_is ◌||◌ refl empty F F tt h h (λ c. refl)

pub intsec_empty : (F : Family) → Ordered F → intsec F empty ≡ empty
intsec_empty F h = combine_is ◌&&◌ refl F empty empty h tt tt (λ c. and-false (has F c))

pub empty_intsec : (F : Family) → Ordered F → intsec empty F ≡ empty
empty_intsec F h = combine_is ◌&&◌ refl empty F empty tt h tt (λ c. refl)

pub diff_empty : (F : Family) → Ordered F → diff F empty ≡ F
diff_empty F h = combine_is minus refl F empty F h tt h (λ c. and-true (has F c))

pub empty_diff : (F : Family) → Ordered F → diff empty F ≡ empty
empty_diff F h = combine_is minus refl empty F empty tt h tt (λ c. refl)

pub union_self : (F : Family) → Ordered F → union F F ≡ F
union_self F h = combine_is ◌||◌ refl F F F h h h (λ c. or_self (has F c))

pub intsec_self : (F : Family) → Ordered F → intsec F F ≡ F
intsec_self F h = combine_is ◌&&◌ refl F F F h h h (λ c. and_self (has F c))

pub diff_self : (F : Family) → Ordered F → diff F F ≡ empty
diff_self F h = combine_is minus refl F F empty h h tt (λ c. and-not_self (has F c))

-- an operation that treats both families alike
pub combine_swap : (f : Bool → Bool → Bool) → f false false ≡ false → ((a b : Bool) → f a b ≡ f b a) → (F G : Family) → Ordered F → Ordered G → combine f F G ≡ combine f G F
combine_swap f z s F G hF hG =
    combine_is f z F G (combine f G F) hF hG (within_combine f z {t = max (top F) (top G)} G F (record { ordered = hG; low = omega arith }) (record { ordered = hF; low = omega arith })).ordered
    (λ c. s (has F c) (has G c) ∙ sym (has_combine f z G F c hG hF))

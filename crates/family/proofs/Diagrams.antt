-- Canonical diagrams: what building a node and taking a cofactor keep, and how membership goes through them.
-- A family within a level is the node of its two cofactors there, so every law is one step at the top item.
use mathlib.Core.Path.{◌≡◌, refl, sym, ap, ◌∙◌}
use Prim.Native.Nat.{ℕ, suc, ◌≤◌, ◌<◌}
use mathlib.Core.Bool.{Bool, true, false}
use mathlib.Core.List.{List, [], ◌∷◌}
use native.Mathlib.Omega.{arith}
use lib.Dec.{T}
use borrow.Author.Tests.{eq-eqb, ne_eqb}
use Rattle.family.specs.Family.{Family, empty, base, node, top, inhabited, Ordered, Within, has, mk}
use Rattle.family.specs.Operation.{lacking, holding, is_base, leaf}
use Rattle.words.proofs.Cases.{by_eq}

pub within_self : (F : Family) → Ordered F → Within (top F) F
within_self F h = record { ordered = h; low = omega arith }

pub within_more : {s : ℕ} (t : ℕ) {F : Family} → Within s F → s ≤ t → Within t F
within_more t h l = record { ordered = h.ordered; low = omega arith }

pub mk_node : (i : ℕ) (a b : Family) → T (inhabited b) → mk i a b ≡ node i a b
mk_node i a empty h = elim h [ ]
mk_node i a base h = refl
mk_node i a (node j c d) h = refl

pub within_leaf : (t : ℕ) (b : Bool) → Within t (leaf b)
within_leaf t true = record { ordered = tt; low = omega arith }
within_leaf t false = record { ordered = tt; low = omega arith }

pub within_mk : {i s t : ℕ} {a b : Family} → Within s a → Within t b → s < i → t < i → Within i (mk i a b)
within_mk {b = empty} ha hb p q = record { ordered = ha.ordered; low = omega arith }
within_mk {b = base} ha hb p q = record { ordered = (omega arith, omega arith, tt, ha.ordered, tt); low = omega arith }
within_mk {b = node j c d} ha hb p q = record { ordered = (omega arith, omega arith, tt, ha.ordered, hb.ordered); low = omega arith }

-- cofactors at a level
pub within_lacking : {t : ℕ} {F : Family} → Within (suc t) F → Within t (lacking (suc t) F)
within_lacking {F = empty} h = record { ordered = tt; low = omega arith }
within_lacking {F = base} h = record { ordered = tt; low = omega arith }
within_lacking {t} {F = node i a b} h =
    by_eq i (suc t) (λ p e. rw e record { ordered = h.ordered.3; low = omega arith })
    (λ p e. rw e record { ordered = h.ordered; low = omega arith })

pub within_holding : {t : ℕ} {F : Family} → Within (suc t) F → Within t (holding (suc t) F)
within_holding {F = empty} h = record { ordered = tt; low = omega arith }
within_holding {F = base} h = record { ordered = tt; low = omega arith }
within_holding {t} {F = node i a b} h =
    by_eq i (suc t) (λ p e. rw e record { ordered = h.ordered.4; low = omega arith }) (λ p e. rw e record { ordered = tt; low = omega arith })

pub lacking_above : {t : ℕ} {F : Family} → Within t F → lacking (suc t) F ≡ F
lacking_above {F = empty} h = refl
lacking_above {F = base} h = refl
lacking_above {t} {F = node i a b} h = by_eq i (suc t) (λ p e. absurd (omega arith)) (λ p e. rw e)

pub holding_above : {t : ℕ} {F : Family} → Within t F → holding (suc t) F ≡ empty
holding_above {F = empty} h = refl
holding_above {F = base} h = refl
holding_above {t} {F = node i a b} h = by_eq i (suc t) (λ p e. absurd (omega arith)) (λ p e. rw e)

-- a family is the node of its cofactors
pub rebuild : {t : ℕ} {F : Family} → Within (suc t) F → mk (suc t) (lacking (suc t) F) (holding (suc t) F) ≡ F
rebuild {F = empty} h = refl
rebuild {F = base} h = refl
rebuild {t} {F = node i a b} h = by_eq i (suc t) (λ p e. rw (e, mk_node (suc t) a b h.ordered.2, p)) (λ p e. rw e)

-- membership
pub has_above : (F : Family) (x : ℕ) (c : List ℕ) → Ordered F → top F < x → has F (x ∷ c) ≡ false
has_above empty x c h l = refl
has_above base x c h l = refl
has_above (node i a b) x c h l = by_eq x i (λ p e. absurd (omega arith)) (λ p e. rw e (has_above a x c h.3 (omega arith)))

pub has_mk : {i t : ℕ} {a : Family} (b : Family) (c : List ℕ) → Within t a → t < i → has (mk i a b) c ≡ has (node i a b) c
has_mk empty [] h l = refl
has_mk {i} {a} empty (x ∷ c) h l =
    by_eq x i (λ p e. rw e (has_above a x c h.ordered (omega arith))) (λ p e. rw e)
has_mk base c h l = refl
has_mk (node j d e) c h l = refl

pub has_sides : {t : ℕ} {F : Family} (c : List ℕ) → Within (suc t) F → has F c ≡ has (node (suc t) (lacking (suc t) F) (holding (suc t) F)) c
has_sides {t} {F} c h = ap (λ X. has X c) (sym (rebuild h)) ∙ has_mk (holding (suc t) F) c (within_lacking h) (omega arith)

pub has_holding : {t : ℕ} {F : Family} (c : List ℕ) → Within (suc t) F → has F (suc t ∷ c) ≡ has (holding (suc t) F) c
has_holding {t} c h = has_sides (suc t ∷ c) h ∙ rw (eq-eqb (suc t) (suc t) refl)

pub has_lacking : {t : ℕ} {F : Family} (x : ℕ) (c : List ℕ) → Within (suc t) F → (x ≡ suc t → ⊥) → has F (x ∷ c) ≡ has (lacking (suc t) F) (x ∷ c)
has_lacking {t} x c h n = has_sides (x ∷ c) h ∙ rw (ne_eqb x (suc t) n)

-- leaves
pub leaf_nil : (b : Bool) → has (leaf b) [] ≡ b
leaf_nil true = refl
leaf_nil false = refl

pub leaf_cons : (b : Bool) (x : ℕ) (c : List ℕ) → has (leaf b) (x ∷ c) ≡ false
leaf_cons true x c = refl
leaf_cons false x c = refl

pub is_leaf : {F : Family} → Within 0 F → leaf (is_base F) ≡ F
is_leaf {F = empty} h = refl
is_leaf {F = base} h = refl
is_leaf {F = node i a b} h = absurd (omega arith)

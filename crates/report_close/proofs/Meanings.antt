-- What a line adds to its family: exactly the combination of its items; and how large families can grow.
-- Change in rising items from {{}} puts each item on top, so the family made has one member; a union has no more
-- members than its two families.
use Prim.Native.Nat.{ℕ, zero, suc, ◌+◌, ◌≤◌, max}
use mathlib.Core.Path.{◌≡◌, refl, sym, ap, ◌∙◌}
use mathlib.Core.Bool.{Bool, true, false, ◌&&◌, ◌||◌}
use mathlib.Core.List.{List, [], ◌∷◌}
use native.Mathlib.Omega.{arith}
use Rattle.words.proofs.Cases.{by_test, clash}
use Rattle.family.specs.Family.{Family, empty, base, node, top, Ordered, Within, has, size, mk}
use Rattle.family.specs.Operation.{change, lacking, holding, is_base, leaf, apply, combine, minus, union, intsec, diff}
use Rattle.family.specs.Combination.{Falling}
use Rattle.family.specs.Finite.{single}
use Rattle.family.proofs.Diagrams.{within_lacking, within_holding, rebuild, is_leaf}
use Rattle.family.proofs.Laws.{union_law}
use Rattle.family.proofs.Finite.{single_falls, change_top}
use Rattle.report_add.specs.Promise.{Added, next_call, line_made, added}
use Rattle.report_close.proofs.Closings.{placed_family}

-- a call that was not refused
next_not_full : (capacity : ℕ) (f : Family → Family) (a : Added) → (next_call capacity f a).full ≡ false → (a.full ≡ false) × ((next_call capacity f a).family ≡ f a.family)
next_not_full capacity f a e =
    by_test a.full (λ t. clash refl (rw t at e)) (λ t. (t, rw t (placed_family capacity a.book (f a.family))))

-- the family made of a combination has it alone
pub made_single : (capacity : ℕ) (B : List Family) (c : List ℕ) → Falling c → (line_made capacity B c).full ≡ false → (line_made capacity B c).family ≡ single c
made_single capacity B [] h e = refl
made_single capacity B (x ∷ c) h e =
    let q = next_not_full capacity (change x) (line_made capacity B c) e in
    q.1 ∙ ap (change x) (made_single capacity B c h.1 q.0) ∙ change_top x c h.0

-- what adding a line comes to, and its members: those of the family, and the combination
pub added_single : (capacity : ℕ) (B : List Family) (F : Family) (c : List ℕ) → Falling c → (added capacity B F c).full ≡ false → (added capacity B F c).family ≡ union F (single c)
added_single capacity B F c h e =
    let q = next_not_full capacity (union F) (line_made capacity B c) e in
    q.1 ∙ ap (union F) (made_single capacity B c h q.0)

pub added_members : (capacity : ℕ) (B : List Family) (F : Family) (c d : List ℕ) → Ordered F → Falling c → (added capacity B F c).full ≡ false
    → has (added capacity B F c).family d ≡ has F d || has (single c) d
added_members capacity B F c d o h e = ap (λ X. has X d) (added_single capacity B F c h e) ∙ union_law F (single c) o (single_falls c h).0 d

-- how many members an operation on two families can leave
size_mk : (i : ℕ) (a b : Family) → size (mk i a b) ≡ size a + size b
size_mk i a empty = omega arith
size_mk i a base = refl
size_mk i a (node j c d) = refl

size_sides : {t : ℕ} {F : Family} → Within (suc t) F → size F ≡ size (lacking (suc t) F) + size (holding (suc t) F)
size_sides {t} {F} h = ap size (sym (rebuild h)) ∙ size_mk (suc t) (lacking (suc t) F) (holding (suc t) F)

size_leaf : (b : Bool) → size (leaf b) ≤ 1
size_leaf true = omega arith
size_leaf false = omega arith

module _ (f : Bool → Bool → Bool) where
  -- what is in neither is in no result: no more members than both have
  sum_level : f false false ≡ false → (t : ℕ) (F G : Family) → Within t F → Within t G → size (apply f t F G) ≤ size F + size G
  sum_level z zero F G hF hG =
      by_test (is_base F)
      (λ p. omega (arith, size_leaf (f (is_base F) (is_base G)), ap size (sym (is_leaf hF) ∙ ap leaf p)))
      (λ p. by_test (is_base G)
      (λ q. omega (arith, size_leaf (f (is_base F) (is_base G)), ap size (sym (is_leaf hG) ∙ ap leaf q)))
      (λ q. rw (p, q, z) (omega arith)))
  sum_level z (suc t) F G hF hG =
      rw (size_mk (suc t) (apply f t (lacking (suc t) F) (lacking (suc t) G)) (apply f t (holding (suc t) F) (holding (suc t) G)))
      (omega (
        arith,
        size_sides hF,
        size_sides hG,
        sum_level z t (lacking (suc t) F) (lacking (suc t) G) (within_lacking hF) (within_lacking hG),
        sum_level z t (holding (suc t) F) (holding (suc t) G) (within_holding hF) (within_holding hG),
      ))

  -- what is not in the first is in no result: no more members than it has
  left_level : ((y : Bool) → f false y ≡ false) → (t : ℕ) (F G : Family) → Within t F → Within t G → size (apply f t F G) ≤ size F
  left_level z zero F G hF hG =
      by_test (is_base F)
      (λ p. omega (arith, size_leaf (f (is_base F) (is_base G)), ap size (sym (is_leaf hF) ∙ ap leaf p)))
      (λ p. rw (p, z (is_base G)) (omega arith))
  left_level z (suc t) F G hF hG =
      rw (size_mk (suc t) (apply f t (lacking (suc t) F) (lacking (suc t) G)) (apply f t (holding (suc t) F) (holding (suc t) G)))
      (omega (
        arith,
        size_sides hF,
        left_level z t (lacking (suc t) F) (lacking (suc t) G) (within_lacking hF) (within_lacking hG),
        left_level z t (holding (suc t) F) (holding (suc t) G) (within_holding hF) (within_holding hG),
      ))

module _ (F G : Family) (hF : Ordered F) (hG : Ordered G) where
  within_both : (H : Family) → Ordered H → top H ≤ max (top F) (top G) → Within (max (top F) (top G)) H
  within_both H h l = record { ordered = h; low = l }

  pub union_size : size (union F G) ≤ size F + size G
  unfolding combine
  union_size = sum_level ◌||◌ refl (max (top F) (top G)) F G (within_both F hF (omega arith)) (within_both G hG (omega arith))

  pub intsec_size : size (intsec F G) ≤ size F
  unfolding combine
  intsec_size = left_level ◌&&◌ (λ y. refl) (max (top F) (top G)) F G (within_both F hF (omega arith)) (within_both G hG (omega arith))

  pub diff_size : size (diff F G) ≤ size F
  unfolding combine
  diff_size = left_level minus (λ y. refl) (max (top F) (top G)) F G (within_both F hF (omega arith)) (within_both G hG (omega arith))

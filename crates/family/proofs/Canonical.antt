-- Canonicity: two ordered families with the same members are equal, by induction on the level through both cofactors.
-- And the top is the largest item in any member.
use mathlib.Core.Path.{◌≡◌, refl}
use Prim.Native.Nat.{ℕ, zero, suc, ◌≤◌, max}
use mathlib.Core.Bool.{true, false}
use mathlib.Core.List.{List, [], ◌∷◌}
use native.Mathlib.Omega.{arith}
use lib.Dec.{T}
use borrow.Author.Tests.{eq-eqb}
use Rattle.family.specs.Family.{Family, empty, base, node, top, inhabited, Ordered, Within, has}
use Rattle.family.specs.Combination.{largest, Falling}
use Rattle.family.specs.Operation.{lacking, holding, is_base}
use Rattle.words.proofs.Cases.{by_test, by_eq, clash}
use Rattle.family.proofs.Diagrams.{within_self, within_more, within_lacking, within_holding, rebuild, has_above, has_sides, has_holding, has_lacking, leaf_nil, is_leaf}

pub same_members : (t : ℕ) {F G : Family} → Within t F → Within t G → ((c : List ℕ) → has F c ≡ has G c) → F ≡ G
same_members zero {F} {G} hF hG h = cc (is_leaf hF, is_leaf hG, leaf_nil (is_base F), leaf_nil (is_base G), h [])
same_members (suc t) {F} {G} hF hG h =
    cc (rebuild hF, rebuild hG, same_members t (within_lacking hF) (within_lacking hG) zeros, same_members t (within_holding hF) (within_holding hG) ones)
  where
    ones : (c : List ℕ) → has (holding (suc t) F) c ≡ has (holding (suc t) G) c
    ones c = cc (has_holding c hF, has_holding c hG, h (suc t ∷ c))

    above : {X : Family} (x : ℕ) (c : List ℕ) → Within (suc t) X → x ≡ suc t → has (lacking (suc t) X) (x ∷ c) ≡ false
    above {X} x c w p = has_above (lacking (suc t) X) x c (within_lacking w).ordered (omega (arith, within_lacking w))

    zeros : (c : List ℕ) → has (lacking (suc t) F) c ≡ has (lacking (suc t) G) c
    zeros [] = cc (has_sides [] hF, has_sides [] hG, h [])
    zeros (x ∷ c) =
        by_eq x (suc t) (λ p e. cc (above x c hF p, above x c hG p))
        (λ p e. cc (has_lacking x c hF p, has_lacking x c hG p, h (x ∷ c)))

-- a member falls, and holds no item above the top
pub member_falls : (F : Family) (c : List ℕ) → Ordered F → has F c ≡ true → Falling c × (largest c ≤ top F)
member_falls empty c h e = clash e refl
member_falls base [] h e = (tt, omega arith)
member_falls base (x ∷ c) h e = clash e refl
member_falls (node i a b) [] h e = (tt, omega arith)
member_falls (node i a b) (x ∷ c) h e =
    by_eq x i
    (λ p d. let q = member_falls b c h.4 (rw d at e) in ((omega arith, q.0), omega arith))
    (λ p d. let q = member_falls a (x ∷ c) h.3 (rw d at e) in (q.0, omega arith))

-- a member, taken as far as possible from the with-sides
abbrev pub highest : Family → List ℕ
highest empty = []
highest base = []
highest (node i a b) = i ∷ highest b

pub highest_member : (F : Family) → Ordered F → T (inhabited F) → (has F (highest F) ≡ true) × (largest (highest F) ≡ top F)
highest_member empty h n = absurd n
highest_member base h n = (refl, refl)
highest_member (node i a b) h n = (rw (eq-eqb i i refl) (highest_member b h.4 h.2).0, refl)

-- two ordered families that agree on every combination are equal
pub canonical : (F G : Family) → Ordered F → Ordered G → ((c : List ℕ) → Falling c → has F c ≡ has G c) → F ≡ G
canonical F G hF hG h =
    same_members (max (top F) (top G)) (within_more _ (within_self F hF) (omega arith)) (within_more _ (within_self G hG) (omega arith)) all
  where
    all : (c : List ℕ) → has F c ≡ has G c
    all c =
        by_test (has F c) (λ e. h c (member_falls F c hF e).0)
        (λ e. by_test (has G c) (λ d. h c (member_falls G c hG d).0) (λ d. cc))

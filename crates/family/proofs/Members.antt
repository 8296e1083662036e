-- The list of members: its length is the size, no combination stands in it twice, and it holds exactly the
-- combinations that `has` says yes to.
-- Each is an induction on the family; the two halves of a node's list differ in the item in front.
use Prim.Native.Nat.{ℕ}
use mathlib.Core.Path.{◌≡◌, refl}
use mathlib.Core.Logic.{◌↔◌, ⊎_elim, ∥∥₁_elim}
use mathlib.Core.HLevel.{⊥_prop, ¬_prop}
use mathlib.Core.Bool.{true}
use mathlib.Core.List.Memᴰ
use mathlib.Core.List.Pairwise
use mathlib.Core.List.{List, [], ◌∷◌, map, Memᴰ, Mem, Nodup, Nodup-append, not-mem-nil, tail-eq_of_cons-eq}
use native.Mathlib.Omega.{arith}
use borrow.Author.Tests.{eq-eqb}
use lib.ListN.{length, length-append, length-map}
use Rattle.family.specs.Family.{Family, empty, base, node, Ordered, has, members, size}
use Rattle.words.proofs.Cases.{by_eq, clash}
use Rattle.family.proofs.Diagrams.{has_above}

pub size_members : (F : Family) → length (members F) ≡ size F
size_members empty = refl
size_members base = refl
size_members (node i a b) = rw (length-append, length-map, size_members a, size_members b)

has_member : (F : Family) (c : List ℕ) → has F c ≡ true → Memᴰ c (members F)
has_member empty c e = clash e refl
has_member base [] e = Memᴰ.head refl
has_member base (x ∷ c) e = clash e refl
has_member (node i a b) [] e = Memᴰ.append_left (map (λ d. i ∷ d) (members b)) (has_member a [] e)
has_member (node i a b) (x ∷ c) e =
    by_eq x i
    (λ p d. Memᴰ.append_right (members a) (rw p (Memᴰ.map (λ d. i ∷ d) (has_member b c (rw d at e)))))
    (λ p d. Memᴰ.append_left (map (λ d. i ∷ d) (members b)) (has_member a (x ∷ c) (rw d at e)))

member_has : (F : Family) (c : List ℕ) → Ordered F → Memᴰ c (members F) → has F c ≡ true
member_has empty c o m = absurd (Memᴰ.not-nil m)
member_has base c o m = rw (Memᴰ.eq_of_singleton m)
member_has (node i a b) c o m =
    ⊎_elim (λ l. left c (member_has a c o.3 l))
    (λ r. let q = Memᴰ.of_map (λ d. i ∷ d) (members b) r in rw (← q.2, eq-eqb i i refl) (member_has b q.0 o.4 q.1))
    (Memᴰ.append_cases (members a) m)
  where
    left : (c : List ℕ) → has a c ≡ true → has (node i a b) c ≡ true
    left [] e = e
    left (x ∷ c) e = by_eq x i (λ p d. clash e (has_above a x c o.3 (omega arith))) (λ p d. rw d e)

pub member_iff : (F : Family) (c : List ℕ) → Ordered F → (has F c ≡ true) ↔ Memᴰ c (members F)
member_iff F c o = (has_member F c, member_has F c o)

-- a member of a node's without-side lacks the node's item, so the two halves of its list share nothing
pub members_distinct : (F : Family) → Ordered F → Nodup (members F)
members_distinct empty o = Pairwise.nil
members_distinct base o = Pairwise.cons (λ c m. absurd (not-mem-nil m)) Pairwise.nil
members_distinct (node i a b) o =
    Nodup-append.1
    (members_distinct a o.3, Pairwise.map (λ c d. ¬_prop) (λ d. i ∷ d) (λ c d n e. n (tail-eq_of_cons-eq e)) (members_distinct b o.4), apart)
  where
    apart : (c : List ℕ) → Mem c (members a) → Mem c (map (λ d. i ∷ d) (members b)) → ⊥
    apart c m n =
        ∥∥₁_elim m ⊥_prop (λ p. ∥∥₁_elim n ⊥_prop (λ q.
        let r = Memᴰ.of_map (λ d. i ∷ d) (members b) q in
        clash (rw (← r.2) at (member_has a c o.3 p)) (has_above a i r.0 o.3 o.0)))

-- Families are the finite sets of combinations: each such set is that of one family, and each family is such a set.
-- The family of one combination has it alone, and a union has the members of both; there is one only by `canonical`.
use Prim.Native.Nat.{ℕ, ◌<◌}
use mathlib.Core.Path.{◌≡◌, refl, sym, ap, ◌∙◌}
use mathlib.Core.Logic.{⊎_elim}
use mathlib.Core.Bool.{true, ◌||◌, or-true}
use mathlib.Core.List.Memᴰ
use mathlib.Core.List.{List, [], ◌∷◌, Memᴰ}
use native.Mathlib.Omega.{arith}
use lib.Dec.{T}
use borrow.Author.Tests.{eq-eqb, lt-ltb}
use Rattle.family.specs.Family.{Family, empty, top, inhabited, Ordered, Within, has, size, members}
use Rattle.family.specs.Combination.{largest, Falling, Combined}
use Rattle.family.specs.Operation.{change, union}
use Rattle.family.specs.Finite.{single, of_members, Combinations, SetOf}
use Rattle.words.proofs.Cases.{by_test, by_eq, clash}
use Rattle.family.proofs.Canonical.{member_falls, canonical}
use Rattle.family.proofs.Members.{member_iff}
use Rattle.family.proofs.Laws.{union_law, union_within}

-- the family of one combination: ordered, of one member
pub single_falls : (c : List ℕ) → Falling c → Ordered (single c) × (top (single c) ≡ largest c)
single_falls [] h = (tt, refl)
single_falls (x ∷ c) h = let q = single_falls c h.1 in ((omega (arith, h.0), omega (arith, q.1, h.0), some c, tt, q.0), refl)
  where
    some : (c : List ℕ) → T (inhabited (single c))
    some [] = tt
    some (y ∷ d) = tt

pub single_size : (c : List ℕ) → size (single c) ≡ 1
single_size [] = refl
single_size (x ∷ c) = omega (arith, single_size c)

-- it has that member, and no other
pub single_has : (c : List ℕ) → has (single c) c ≡ true
single_has [] = refl
single_has (x ∷ c) = rw (eq-eqb x x refl) (single_has c)

pub single_only : (c d : List ℕ) → has (single c) d ≡ true → d ≡ c
single_only [] [] e = refl
single_only [] (y ∷ d) e = clash e refl
single_only (x ∷ c) [] e = clash e refl
single_only (x ∷ c) (y ∷ d) e =
    by_eq y x (λ p t. let q = single_only c d (rw t at e) in λ i. p i ∷ q i) (λ p t. clash (rw t at e) refl)

-- an item above all others is put on top
pub change_top : (x : ℕ) (c : List ℕ) → largest c < x → change x (single c) ≡ single (x ∷ c)
change_top x [] l = refl
change_top x (y ∷ c) l = rw (lt-ltb y x l)

module _ (limit : ℕ) where
  single_within : (c : List ℕ) → Combined limit c → Within limit (single c)
  single_within c k = let q = single_falls c k.falling in record { ordered = q.0; low = omega (arith, q.1, k.low) }

  set_none : SetOf limit [] empty
  set_none = record { within = record { ordered = tt; low = omega arith }; exactly = λ d. (λ e. clash e refl, λ m. absurd (Memᴰ.not-nil m)) }

  -- one combination more
  set_more : (c : List ℕ) (L : List (List ℕ)) (F : Family) → Combined limit c → SetOf limit L F → SetOf limit (c ∷ L) (union (single c) F)
  set_more c L F k s = record { within = union_within (single c) F (single_within c k) s.within; exactly = λ d. (only d, each d) }
    where
      either : (d : List ℕ) → has (union (single c) F) d ≡ has (single c) d || has F d
      either = union_law (single c) F (single_within c k).ordered s.within.ordered

      only : (d : List ℕ) → has (union (single c) F) d ≡ true → Memᴰ d (c ∷ L)
      only d e =
          by_test (has (single c) d)
          (λ t. Memᴰ.head (single_only c d t))
          (λ t. Memᴰ.tail ((s.exactly d).0 (rw t at (sym (either d) ∙ e))))

      each : (d : List ℕ) → Memᴰ d (c ∷ L) → has (union (single c) F) d ≡ true
      each d m =
          either d
          ∙ ⊎_elim
          (λ p. let e : has (single c) d ≡ true = ap (has (single c)) p ∙ single_has c in rw e)
          (λ n. rw ((s.exactly d).1 n, or-true))
          (Memᴰ.cases_cons m)

  -- every finite set of combinations of items up to the limit is a family
  pub finite_set : (L : List (List ℕ)) → Combinations limit L → SetOf limit L (of_members L)
  finite_set [] k = set_none
  finite_set (c ∷ L) k = set_more c L (of_members L) (k c (Memᴰ.head refl)) (finite_set L (λ d m. k d (Memᴰ.tail m)))

  -- every family is the set of its members
  pub family_set : (F : Family) → Within limit F → Combinations limit (members F) × SetOf limit (members F) F
  family_set F w = (all, record { within = w; exactly = λ c. member_iff F c w.ordered })
    where
      all : Combinations limit (members F)
      all c m = let q = member_falls F c w.ordered ((member_iff F c w.ordered).1 m) in record { falling = q.0; low = omega (arith, q.1, w.low) }

  -- and of one family only
  pub set_one : (L : List (List ℕ)) (F G : Family) → SetOf limit L F → SetOf limit L G → F ≡ G
  set_one L F G f g = canonical F G f.within.ordered g.within.ordered (λ c k. same c)
    where
      same : (c : List ℕ) → has F c ≡ has G c
      same c =
          by_test (has F c)
          (λ e. e ∙ sym ((g.exactly c).1 ((f.exactly c).0 e)))
          (λ e. by_test (has G c) (λ d. clash ((f.exactly c).1 ((g.exactly c).0 d)) e) (λ d. e ∙ sym d))

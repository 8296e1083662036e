-- Families of combinations as zero-suppressed diagrams: document 01, 'Families and their parts'.
use Rattle.std.specs.Prelude.{ℕ, ◌+◌, ◌≤◌, ◌<◌, Bool, true, false, cond, List, [], ◌∷◌, ◌++◌, map, T, eqb}

-- A family by its diagram: {}, {{}}, or a node of its top item, its without-side (zero child) and its with-side (one
-- child).
pub data Family : Type 0 where
  empty base : Family
  node : ℕ → Family → Family → Family
  deriving Discrete as Family-discrete

-- "The top of a family is the largest item in any of its members. The empty family {} and the base family {{}} have
-- no item; their top counts as 0."
abbrev pub top : Family → ℕ
top empty = 0
top base = 0
top (node i a b) = i

-- "its without-side is the members that lack t"
abbrev pub without_side : Family → Family
without_side empty = empty
without_side base = empty
without_side (node i a b) = a

-- "its with-side is the members that hold t, with t taken out"
abbrev pub with_side : Family → Family
with_side empty = empty
with_side base = empty
with_side (node i a b) = b

-- whether a family has a member
abbrev pub inhabited : Family → Bool
inhabited empty = false
inhabited base = true
inhabited (node i a b) = true

-- A diagram in canonical form: items fall on every way down, and no with-side is {} (the zero-suppression rule).
-- Equal sides are kept.
abbrev pub Ordered : Family → Type 0
Ordered empty = Unit {0}
Ordered base = Unit {0}
Ordered (node i a b) = (top a < i) × (top b < i) × T (inhabited b) × Ordered a × Ordered b

-- "An item is a number from 1 to 512."
abbrev pub largest_item : ℕ
largest_item = 512

-- A family of items from 1 to the limit.
pub record Within (limit : ℕ) (F : Family) : Type 0 where
  pub ordered : Ordered F
  pub low : top F ≤ limit

-- The members, each a falling list of items: those without the top item first, then those with it.
abbrev pub members : Family → List (List ℕ)
members empty = []
members base = [] ∷ []
members (node i a b) = members a ++ map (λ c. i ∷ c) (members b)

-- Whether a combination is a member.
abbrev pub has : Family → List ℕ → Bool
has empty c = false
has base [] = true
has base (x ∷ c) = false
has (node i a b) [] = has a []
has (node i a b) (x ∷ c) = cond (eqb x i) (has b c) (has a (x ∷ c))

-- "Size gives the number of members (Count in document 001)."
abbrev pub size : Family → ℕ
size empty = 0
size base = 1
size (node i a b) = size a + size b

-- "The parts of F are F itself and the parts of both sides; {} and {{}} have no parts": in visiting order,
-- "without-side first, then with-side, then the part itself".
abbrev pub parts : Family → List Family
parts empty = []
parts base = []
parts (node i a b) = parts a ++ (parts b ++ (node i a b ∷ []))

-- The family of a's members and of b's members each with the item i added, i above both tops: no node where b is {}.
abbrev pub mk : ℕ → Family → Family → Family
mk i a empty = a
mk i a base = node i a base
mk i a (node j c d) = node i a (node j c d)

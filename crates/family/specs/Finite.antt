-- Families and finite sets of combinations: document 01, "A family is a set of combinations".
use Rattle.std.specs.Prelude.{ℕ, ◌≡◌, ◌↔◌, true}
use mathlib.Core.List.{List, [], ◌∷◌, Memᴰ}
use Rattle.family.specs.Family.{Family, empty, base, node, Within, has}
use Rattle.family.specs.Combination.{Combined}
use Rattle.family.specs.Operation.{union}

-- the family of one combination
abbrev pub single : List ℕ → Family
single [] = base
single (x ∷ c) = node x empty (single c)

-- the family of the combinations in a list
abbrev pub of_members : List (List ℕ) → Family
of_members [] = empty
of_members (c ∷ L) = union (single c) (of_members L)

-- a list of combinations of items from 1 to the limit
abbrev pub Combinations : ℕ → List (List ℕ) → Type 0
Combinations limit L = (c : List ℕ) → Memᴰ c L → Combined limit c

-- The family is the set of the combinations in the list: it keeps to the limit, and has exactly these as its members.
pub record SetOf (limit : ℕ) (L : List (List ℕ)) (F : Family) : Type 0 where
  pub within : Within limit F
  pub exactly : (c : List ℕ) → (has F c ≡ true) ↔ Memᴰ c L

-- The weights of items, and their sum over a family in two ways: document 02, No. 1.
use Rattle.std.specs.Prelude.{ℕ, ◌+◌, ◌-◌, ◌*◌, List, [], ◌∷◌, map, get_or}
use Rattle.family.specs.Family.{Family, empty, base, node, members, size}

-- "Planning gives each item a weight in minutes, a lent list of 512 numbers": that of item i stands at i − 1
abbrev pub item_weight : List ℕ → ℕ → ℕ
item_weight weights i = get_or weights (i - 1) 0

-- the weight of a combination: the sum of its items' weights
abbrev pub combination_weight : List ℕ → List ℕ → ℕ
combination_weight weights [] = 0
combination_weight weights (i ∷ c) = item_weight weights i + combination_weight weights c

-- the sum of some numbers
abbrev pub total : List ℕ → ℕ
total [] = 0
total (n ∷ ns) = n + total ns

-- "the sum of item weights over every combination of a family", "member by member"
unfoldable pub sum_by_members : List ℕ → Family → ℕ
sum_by_members weights F = total (map (λ c. combination_weight weights c) (members F))

-- "node by node": the sums of both sides, and the item's weight once for each member of the with-side
abbrev pub sum_by_nodes : List ℕ → Family → ℕ
sum_by_nodes weights empty = 0
sum_by_nodes weights base = 0
sum_by_nodes weights (node i a b) = sum_by_nodes weights a + sum_by_nodes weights b + item_weight weights i * size b

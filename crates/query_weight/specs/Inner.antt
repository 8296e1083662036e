-- What the walk over the members promises. A reader of the promise can pass this page over.
use Rattle.std.specs.Prelude.{ℕ, ◌+◌, ◌*◌, ◌≤◌, ◌<◌, ◌≡◌, ⊤, Option, MatchOption, List, length}
use Rattle.words.specs.Words.{most}
use Rattle.family.specs.Family.{Family, empty, base, node, top}
use Rattle.family.specs.Book.{at}
use Rattle.family.specs.Weights.{item_weight}
use Rattle.store.specs.Inner.{Holds}

-- the sum over the members of a family, each with n more: what a walk adds up below items of that weight
abbrev pub sum_below : List ℕ → ℕ → Family → ℕ
sum_below weights n empty = 0
sum_below weights n base = n
sum_below weights n (node i a b) = sum_below weights n a + sum_below weights (n + item_weight weights i) b

-- the words of the nodes held, and a weight so far that leaves room for those of all items below the bound
pub record WalkAsks (nodes : List ℕ) (n bound carried : ℕ) : Type 0 where
  pub words : 3 * n ≤ length nodes
  pub small : n ≤ 1000000
  pub low : bound ≤ 513
  pub light : carried + 4294967296 * bound ≤ 4294967296 * 513

-- a sum has grown by a number, or would be above the largest number with it
pub record Grown (sum n sum' : ℕ) (r : Option ⊤) : Type 0 where
  pub is : MatchOption r (most < sum + n) (λ _. sum' ≡ sum + n)
  pub inside : sum ≤ most → sum' ≤ most

-- the sum so far has grown by that below p
pub record Walked (nodes weights : List ℕ) (n p bound carried sum sum' : ℕ) (r : Option ⊤) : Type 0 where
  pub inside : sum ≤ most → sum' ≤ most
  pub is : {limit : ℕ} (B : List Family) (lookup : List ℕ) → Holds limit B n nodes lookup → p < n + 2 → top (at B p) < bound
      → MatchOption r (most < sum + sum_below weights carried (at B p)) (λ _. sum' ≡ sum + sum_below weights carried (at B p))

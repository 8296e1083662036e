-- What the functions below the two sums of weights promise each other. A reader of their promise can pass this page
-- over.
use Rattle.std.specs.Prelude.{ℕ, ◌+◌, ◌*◌, ◌-◌, ◌%◌, ◌≤◌, ◌<◌, min, ◌≡◌, Bool, cond, Option, None, Some, SomeIff, List, eqb, ltb, length, get_or, set}
use Rattle.words.specs.Words.{most}
use Rattle.family.specs.Family.{Family, node, size}
use Rattle.family.specs.Book.{at}
use Rattle.family.specs.Weights.{item_weight, sum_by_nodes}
use Rattle.store.specs.Inner.{Holds}
use Rattle.query_sums.specs.declared.numbers.Both.{Both}

-- a number of any size, kept: the number itself where it is at most 2^64 − 1, and None exactly where it is above that
pub record Keeps (x : ℕ) (k : Option ℕ) : Type 0 where
  pub is : SomeIff k (x ≤ most) x

pub record Added (a b r : Option ℕ) : Type 0 where
  pub is : (x y : ℕ) → Keeps x a → Keeps y b → Keeps (x + y) r

pub record Multiplied (weight : ℕ) (a r : Option ℕ) : Type 0 where
  pub is : (x : ℕ) → Keeps x a → Keeps (weight * x) r

-- the size, the sum and the mark of a handle in the words of n nodes: {} and {{}} have none
unfoldable pub size_word : List ℕ → ℕ → ℕ
size_word words p = cond (ltb p 2) p (get_or words (2 * (p - 2)) 0)

unfoldable pub sum_word : List ℕ → ℕ → ℕ
sum_word words p = cond (ltb p 2) 0 (get_or words (2 * (p - 2) + 1) 0)

unfoldable pub mark_word : List ℕ → ℕ → ℕ → ℕ
mark_word words n p = cond (ltb p 2) 0 (get_or words (2 * n + (p - 2)) 0)

-- a mark: 1 where the size is above the largest word, 2 where the sum is, 3 where both are; and what it says of each
abbrev pub mark_of : Bool → Bool → ℕ
mark_of size sum = cond size (cond sum 3 1) (cond sum 2 0)

abbrev pub size_mark : ℕ → Bool
size_mark mark = eqb (mark % 2) 1

abbrev pub sum_mark : ℕ → Bool
sum_mark mark = ltb 1 mark

-- a size, a sum and a mark are those of a family; the mark counts where a word is the largest
pub record Carries (weights : List ℕ) (F : Family) (size_is sum_is mark : ℕ) : Type 0 where
  pub size_low : size_is ≡ min (size F) most
  pub sum_low : sum_is ≡ min (sum_by_nodes weights F) most
  pub size_mark_is : size_is ≡ most → size_mark mark ≡ ltb most (size F)
  pub sum_mark_is : sum_is ≡ most → sum_mark mark ≡ ltb most (sum_by_nodes weights F)

-- those of a handle are
abbrev pub Stands : List ℕ → Family → List ℕ → ℕ → ℕ → Type 0
Stands weights F words n p = Carries weights F (size_word words p) (sum_word words p) (mark_word words n p)

-- three words for each node held
pub record WordsAsk (words : List ℕ) (n : ℕ) : Type 0 where
  pub long : 3 * n ≤ length words
  pub small : n ≤ 1000000

-- the words of a handle
pub record Paired (words : List ℕ) (n p : ℕ) (r : Both ℕ) : Type 0 where
  pub size_is : p < n + 2 → r.size ≡ size_word words p
  pub sum_is : p < n + 2 → r.sum ≡ sum_word words p

-- the number of a word, by what its mark says: only the largest word can be above itself
pub record Told (word : ℕ) (above : Bool) (r : Option ℕ) : Type 0 where
  pub brim : most ≤ word → r ≡ cond above None (Some word)
  pub below : word < most → r ≡ Some word

-- the numbers of a handle
pub record BothKept (words : List ℕ) (n p : ℕ) (r : Both (Option ℕ)) : Type 0 where
  pub size_is : p < n + 2 → (weights : List ℕ) (F : Family) → Stands weights F words n p → Keeps (size F) r.size
  pub sum_is : p < n + 2 → (weights : List ℕ) (F : Family) → Stands weights F words n p → Keeps (sum_by_nodes weights F) r.sum

-- the words with those of node j + 2 put
abbrev pub put_numbers : List ℕ → ℕ → ℕ → ℕ → ℕ → ℕ → List ℕ
put_numbers words n j size_is sum_is mark = set (set (set words (2 * j) size_is) (2 * j + 1) sum_is) (2 * n + j) mark

-- words so small that the sum of a node over two such handles fits a word, whatever its weight
pub record Small (pair : Both ℕ) : Type 0 where
  pub size_low : pair.size ≤ 2147483647
  pub sum_low : pair.sum ≤ 4611686018427387903

pub record SmallAsks (words : List ℕ) (j weight : ℕ) (without with : Both ℕ) : Type 0 where
  pub inside : 2 * j + 1 < length words
  pub few : j < 1000000
  pub light : weight ≤ 4294967295
  pub without_small : Small without
  pub with_small : Small with

-- the words with those of node j + 2 put, over two such handles
abbrev pub put_small : List ℕ → ℕ → ℕ → Both ℕ → Both ℕ → List ℕ
put_small words j weight without with = set (set words (2 * j) (without.size + with.size)) (2 * j + 1) (without.sum + with.sum + weight * with.size)

-- the words of node j + 2 are put, by those of its children, and no others change
pub record NodePut (n j weight zero one : ℕ) (words words' : List ℕ) : Type 0 where
  pub long : length words' ≡ length words
  pub others : (k : ℕ) → (k ≡ 2 * j → ⊥) → (k ≡ 2 * j + 1 → ⊥) → (k ≡ 2 * n + j → ⊥) → get_or words' k 0 ≡ get_or words k 0
  pub is : zero < n + 2 → one < n + 2 → (weights : List ℕ) (i : ℕ) (a b : Family) → weight ≡ item_weight weights i
      → Stands weights a words n zero → Stands weights b words n one
      → Carries weights (node i a b) (get_or words' (2 * j) 0) (get_or words' (2 * j + 1) 0) (get_or words' (2 * n + j) 0)

-- the words of the first j of n nodes are those of their families, and the words past those of n nodes have not changed
pub record Filled (nodes weights : List ℕ) (n j : ℕ) (words words' : List ℕ) : Type 0 where
  pub long : length words' ≡ length words
  pub rest : (k : ℕ) → 3 * n ≤ k → get_or words' k 0 ≡ get_or words k 0
  pub each : {limit : ℕ} (B : List Family) (lookup : List ℕ) → Holds limit B n nodes lookup → (k : ℕ) → k < j
      → Carries weights (at B (k + 2)) (get_or words' (2 * k) 0) (get_or words' (2 * k + 1) 0) (get_or words' (2 * n + k) 0)

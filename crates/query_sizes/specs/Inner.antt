-- What the functions below Size promise each other. A reader of the promise can pass this page over.
use Rattle.std.specs.Prelude.{ℕ, ◌+◌, ◌≤◌, ◌<◌, min, ◌*◌, ◌≡◌, Bool, List, ltb, length, get_or}
use Rattle.family.specs.Family.{Family, size}
use Rattle.family.specs.Book.{at}
use Rattle.store.specs.Inner.{Holds}
use Rattle.words.specs.Words.{most}

-- the words of the nodes held, and a word for each
pub record FillAsks (nodes sizes : List ℕ) (count : ℕ) : Type 0 where
  pub words : 3 * count ≤ length nodes
  pub scratch : count ≤ length sizes
  pub small : count ≤ 1000000

-- the words of the first j of n nodes are their sizes, the later ones as they were
pub record Filled (nodes : List ℕ) (n j : ℕ) (sizes sizes' : List ℕ) : Type 0 where
  pub long : length sizes' ≡ length sizes
  pub rest : (k : ℕ) → j ≤ k → get_or sizes' k 0 ≡ get_or sizes k 0
  pub each : {limit : ℕ} (B : List Family) (lookup : List ℕ) → Holds limit B n nodes lookup → (k : ℕ) → k < j → get_or sizes' k 0 ≡ min (size (at B (k + 2))) most

-- whether the size of p, whose word is 2^64 - 1, is above that
pub record Exceeding (nodes sizes : List ℕ) (n p : ℕ) (r : Bool) : Type 0 where
  pub is : {limit : ℕ} (B : List Family) (lookup : List ℕ) → Holds limit B n nodes lookup → ((k : ℕ) → k < n → get_or sizes k 0 ≡ min (size (at B (k + 2))) most) → most ≤ size (at B p)
      → r ≡ ltb most (size (at B p))

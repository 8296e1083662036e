-- What placing the parts of the local table promises. A reader of the promise can pass this page over.
use Rattle.std.specs.Prelude.{ℕ, ◌+◌, ◌*◌, ◌≤◌, ◌<◌, ◌≡◌, List, length}
use Rattle.family.specs.Family.{Family, top}
use Rattle.family.specs.Book.{start, at, place}
use Rattle.store.specs.declared.record.Fill.{Fill}
use Rattle.store.specs.Words.{word_of}
use Rattle.store.specs.Inner.{Reached, Roomy, Kept, RanPlain}
use Rattle.file_table.specs.Inner.{Local, LocalNode, LocalNodes}

-- The handles in the store of the first k local nodes, by their words: each is held in a store of so many nodes.
pub record Handles (k count : ℕ) (handles : List ℕ) : Type 0 where
  pub each : (p : ℕ) → p < k + 2 → word_of handles p ≤ count + 1

-- what `place_part` is asked with: a store with room for words, the local node number k, and the handles of those
-- before it
pub record PartAsks (s : Fill) (nodes lookup parts handles : List ℕ) (k : ℕ) : Type 0 where
  pub roomy : Roomy s nodes lookup
  pub local : LocalNode parts k
  pub handles_held : Handles k s.count handles
  pub words : 3 * k + 3 ≤ length parts
  pub below : k < length handles

-- what `place_parts` is asked with: the same for all n local nodes
pub record PartsAsks (s : Fill) (nodes lookup parts handles : List ℕ) (n : ℕ) : Type 0 where
  pub roomy : Roomy s nodes lookup
  pub local : LocalNodes parts n
  pub words : 3 * n ≤ length parts
  pub few : n ≤ length handles
  pub low : n < 4294967295

-- all local parts placed: on any store words, and as the last family where they are its own book
pub record PlacedOf (s : Fill) (nodes lookup parts handles : List ℕ) (n : ℕ) (r : Reached) (nodes' lookup' handles' : List ℕ) : Type 0 where
  pub long : length handles' ≡ length handles
  pub kept : Kept s nodes lookup r.store nodes' lookup'
  pub ran : (C : List Family) (slots : List ℕ) → Local C n parts slots → place start (at C (n + 1)) ≡ C → RanPlain (top (at C (n + 1))) (λ B. at C (n + 1)) s nodes lookup r nodes' lookup'

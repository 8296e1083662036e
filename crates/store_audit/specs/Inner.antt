-- What the functions below Audit promise each other. A reader of the promise can pass this page over.
use Rattle.std.specs.Prelude.{ℕ, ◌+◌, ◌*◌, ◌≤◌, ◌<◌, ◌≡◌, Bool, true, false, List, get_or, length}
use Rattle.table.specs.Own.{own_of}
use Rattle.store.specs.declared.record.Store.{Store}
use Rattle.store.specs.Words.{book_of}
use Rattle.store.specs.Cache.{True}
use Rattle.store.specs.Sound.{Sound, Node}

-- the words of node number k + 2
pub record RowAsks (nodes : List ℕ) (k : ℕ) : Type 0 where
  pub words : 3 * k + 3 ≤ length nodes
  pub few : k < 1000000

-- the words of so many nodes, and a lookup of at least one slot
pub record RowsAsks (nodes lookup : List ℕ) (count : ℕ) : Type 0 where
  pub words : 3 * count ≤ length nodes
  pub few : count ≤ 1000000
  pub slots : 0 < length lookup

-- an answer is yes exactly when the store is sound with each cache that is true of its book
pub record TellsSound (s : Store) (nodes lookup : List ℕ) (r : Bool) : Type 0 where
  pub says_yes : r ≡ true → (cache : List ℕ) → True s.limit (book_of nodes s.count) cache → Sound s nodes lookup cache
  pub says_no : r ≡ false → (cache : List ℕ) → Sound s nodes lookup cache → ⊥

-- an answer is yes exactly when a fact holds
pub record Decides (P : Type 0) (r : Bool) : Type 0 where
  pub says_yes : r ≡ true → P
  pub says_no : r ≡ false → P → ⊥

-- the words of node number k + 2 obey the rules of a node
abbrev pub NodeAt : ℕ → List ℕ → ℕ → Type 0
NodeAt limit nodes k = Node limit nodes k (get_or nodes (3 * k) 0) (get_or nodes (3 * k + 1) 0) (get_or nodes (3 * k + 2) 0)

-- the search for the words of node number k + 2 among the nodes before it stops at the slot that holds its number
abbrev pub OwnAt : List ℕ → List ℕ → ℕ → Type 0
OwnAt nodes lookup k = get_or lookup (own_of nodes lookup k) 0 ≡ k + 2

-- both, for the first n nodes
pub record NodesTo (limit : ℕ) (nodes lookup : List ℕ) (n : ℕ) : Type 0 where
  pub each : (k : ℕ) → k < n → NodeAt limit nodes k
  pub own : (k : ℕ) → k < n → OwnAt nodes lookup k

-- the words from one place up to another are 0
pub record Blank (words : List ℕ) (from to : ℕ) : Type 0 where
  pub is : (k : ℕ) → from ≤ k → k < to → get_or words k 0 ≡ 0

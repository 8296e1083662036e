-- What the functions of the unique table ask. A reader of the promises can pass this page over.
use Rattle.std.specs.Prelude.{ℕ, ◌+◌, ◌*◌, ◌<◌, ◌≤◌, List, length}

-- "An item is a number from 1 to 512."
pub record AnItem (i : ℕ) : Type 0 where
  pub some : 1 ≤ i
  pub low : i ≤ 512

-- the words of so many nodes
pub record NodeWords (nodes : List ℕ) (count : ℕ) : Type 0 where
  pub words : 3 * count ≤ length nodes
  pub few : count < 4294967295

-- an item, and a lookup of at least one slot
pub record StartAsks (item slots : ℕ) : Type 0 where
  pub an_item : AnItem item
  pub some : 0 < slots

pub record ProbeAsks (nodes lookup : List ℕ) (count item : ℕ) : Type 0 where
  pub rows : NodeWords nodes count
  pub start : StartAsks item (length lookup)

-- the words of node number k + 2, and a lookup of at least one slot
pub record OwnAsks (nodes lookup : List ℕ) (k : ℕ) : Type 0 where
  pub words : 3 * k + 3 ≤ length nodes
  pub few : k < 1000000
  pub slots : 0 < length lookup

pub record ClearAsks (nodes lookup : List ℕ) (keep count : ℕ) : Type 0 where
  pub words : 3 * count ≤ length nodes
  pub few : count ≤ 1000000
  pub rising : keep ≤ count
  pub slots : 0 < length lookup

-- What making a node promises: on any words that fit, and where the words hold a book. A reader of the promises can
-- pass this page over.
use Rattle.std.specs.Prelude.{ℕ, ◌+◌, ◌≤◌, ◌<◌, ◌*◌, ◌≡◌, List, [], ◌∷◌, ◌++◌, length, set, Result, Ok, Err}
use Rattle.family.specs.Family.{Family, node, Within, top, mk, largest_item}
use Rattle.family.specs.Book.{at, number, made}
use Rattle.store.specs.declared.record.Unplaced.{Unplaced}
use Rattle.store.specs.declared.record.Unplaced.TheVariants.{Full}
use Rattle.store.specs.declared.record.Fill.{Fill}
use Rattle.store.specs.Inner.{put_node, Reached, Holds, Handed, Kept, Outcome, Roomy}
use Rattle.store_node.specs.declared.unique.Made.{Made}
use Rattle.store_node.specs.declared.unique.Made.TheVariants.{Found, New}

-- room for the words of the node after `count` others, and a slot
pub record SlotAsks (nodes lookup : List ℕ) (count slot : ℕ) : Type 0 where
  pub words : 3 * count + 3 ≤ length nodes
  pub few : count < 1000000
  pub within : slot < length lookup

-- the words of the node, and its number in the slot
pub record EnteredIt (nodes lookup : List ℕ) (count slot item z o : ℕ) (nodes' lookup' : List ℕ) : Type 0 where
  pub nodes_are : nodes' ≡ put_node nodes count item z o
  pub lookup_is : lookup' ≡ set lookup slot (count + 2)

-- the words of a node whose children are held
pub record NodeAsks (s : Fill) (nodes lookup : List ℕ) (item z o : ℕ) : Type 0 where
  pub roomy : Roomy s nodes lookup
  pub item_some : 1 ≤ item
  pub item_low : item ≤ largest_item
  pub zero_held : z ≤ s.count + 1
  pub one_held : o ≤ s.count + 1

-- how many nodes are held once a node is made, of n before
abbrev pub held_after : ℕ → Result Made Unplaced → ℕ
held_after n (Ok (Found h)) = n
held_after n (Ok (New h)) = n + 1
held_after n (Err x) = n

-- what making a node comes to, as an answer
abbrev pub answer_by : Result Made Unplaced → Result ℕ Unplaced
answer_by (Ok (Found h)) = Ok h
answer_by (Ok (New h)) = Ok h
answer_by (Err x) = Err x

-- how far the store is then filled
abbrev pub filled_after : Fill → Result Made Unplaced → Fill
filled_after s m = record { capacity = s.capacity; count = held_after s.count m }

-- both
abbrev pub reached_with : Fill → Result Made Unplaced → Reached
reached_with s m = record { store = filled_after s m; answer = answer_by m }

-- making the node F in a book: found exactly where the book holds it; where it does not, new at its end, or no room
-- for it
pub data MadeOf (limit : ℕ) (B : List Family) (F : Family) (capacity n : ℕ) (nodes lookup : List ℕ) : Result Made Unplaced → Type 0 where
  found : {h : ℕ} → Handed limit B F h n nodes lookup → MadeOf limit B F capacity n nodes lookup (Ok (Found h))
  new : {h : ℕ} → length B ≤ number B F → Handed limit (B ++ (F ∷ [])) F h n nodes lookup → MadeOf limit B F capacity n nodes lookup (Ok (New h))
  full : length B ≤ number B F → capacity + 2 ≤ length B → Holds limit B n nodes lookup → MadeOf limit B F capacity n nodes lookup (Err Full)

-- "Making or finding a node must tell which of the two it was": on any words, what was found is a handle held before,
-- with every word as it came, and what is new has the number after those held
pub record MadeIt (s : Fill) (nodes lookup : List ℕ) (i z o : ℕ) (r : Result Made Unplaced) (nodes' lookup' : List ℕ) : Type 0 where
  pub kept : Kept s nodes lookup (filled_after s r) nodes' lookup'
  pub found_is : (h : ℕ) → r ≡ Ok (Found h) → (h ≤ s.count + 1) × (nodes' ≡ nodes) × (lookup' ≡ lookup)
  pub new_is : (h : ℕ) → r ≡ Ok (New h) → h ≡ s.count + 2
  pub sound : {limit : ℕ} (B : List Family) → Holds limit B s.count nodes lookup → Within limit (node i (at B z) (at B o))
      → MadeOf limit B (node i (at B z) (at B o)) s.capacity (held_after s.count r) nodes' lookup' r

-- Getnode: the family of an item and two sides that the book holds, in every store whose limit is at least the item
pub record NodeIt (s : Fill) (nodes lookup : List ℕ) (i z o : ℕ) (r : Reached) (nodes' lookup' : List ℕ) : Type 0 where
  pub kept : Kept s nodes lookup r.store nodes' lookup'
  pub handle : (h : ℕ) → r.answer ≡ Ok h → h ≤ r.store.count + 1
  pub sound : {limit : ℕ} (B : List Family) → i ≤ limit → Holds limit B s.count nodes lookup → top (at B z) < i → top (at B o) < i
      → Outcome limit (made B i (at B z) (at B o)) (mk i (at B z) (at B o)) s.capacity r.store.count nodes' lookup' r.answer

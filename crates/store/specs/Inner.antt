-- What the functions below the public calls promise each other: on any words that fit, and where the words hold a
-- book, whatever the store's limit. A reader of the promises can pass this page over.
use Rattle.std.specs.Prelude.{ℕ, ◌+◌, ◌*◌, ◌/◌, ◌≤◌, ◌<◌, ◌≡◌, List, length, get_or, set, Result, Ok, Err}
use Rattle.family.specs.Family.{Family, node, largest_item}
use Rattle.family.specs.Book.{at, place, Book}
use Rattle.table.specs.Entered.{entered, start_at}
use Rattle.store.specs.declared.record.Store.{Store}
use Rattle.store.specs.declared.record.Unplaced.{Unplaced}
use Rattle.store.specs.declared.record.Fill.{Fill}
use Rattle.store.specs.declared.record.Unplaced.TheVariants.{Full, Damaged}
use Rattle.store.specs.declared.record.Refusal.{Refusal}
use Rattle.store.specs.Cache.{True}

-- how far a store is filled, by its record
abbrev pub fill_in : Store → Fill
fill_in s = record { capacity = s.capacity; count = s.count }

-- what a call is refused with that placed nothing
abbrev pub refusal_of : Unplaced → Refusal
refusal_of Full = Refusal.Full
refusal_of Damaged = Refusal.Damaged

-- What an inner call that places comes to: how far the store is filled, and a handle or why there is none. What it added is the
-- difference of two counts, told where the public call ends.
pub record Reached : Type 0 where
  pub store : Fill
  pub answer : Result ℕ Unplaced

abbrev pub reached : Fill → Result ℕ Unplaced → Reached
reached s answer = record { store = s; answer = answer }

-- words that fit
pub record Roomy (s : Fill) (nodes lookup : List ℕ) : Type 0 where
  pub within : s.count ≤ s.capacity
  pub words : 3 * s.capacity ≤ length nodes
  pub small : s.capacity ≤ 1000000
  pub longer : s.capacity < length lookup

-- the words of node number k + 2 are those of the book's family of that number
pub record Entry (B : List Family) (k i z o : ℕ) : Type 0 where
  pub is : at B (k + 2) ≡ node i (at B z) (at B o)
  pub zero_before : z < k + 2
  pub one_before : o < k + 2

-- the node and lookup words hold a book of n nodes, within a limit
pub record Holds (limit : ℕ) (B : List Family) (n : ℕ) (nodes lookup : List ℕ) : Type 0 where
  pub limit_low : limit ≤ largest_item
  pub book : Book limit B
  pub size : length B ≡ n + 2
  pub each : (k : ℕ) → k < n → Entry B k (get_or nodes (3 * k) 0) (get_or nodes (3 * k + 1) 0) (get_or nodes (3 * k + 2) 0)
  pub lookup_is : lookup ≡ entered (start_at nodes (length lookup)) (length lookup) n

-- they hold a book in which the handle h is the family F
pub record Handed (limit : ℕ) (B : List Family) (F : Family) (h n : ℕ) (nodes lookup : List ℕ) : Type 0 where
  pub holds : Holds limit B n nodes lookup
  pub within : h < n + 2
  pub means : at B h ≡ F

-- the answer where the book becomes C, which has F: a handle, or full where C has no room; never damaged
pub data Outcome (limit : ℕ) (C : List Family) (F : Family) (capacity n : ℕ) (nodes lookup : List ℕ) : Result ℕ Unplaced → Type 0 where
  gave : {h : ℕ} → Handed limit C F h n nodes lookup → Outcome limit C F capacity n nodes lookup (Ok h)
  full : (D : List Family) → Holds limit D n nodes lookup → capacity + 2 < length C → Outcome limit C F capacity n nodes lookup (Err Full)

-- what any words keep: the capacity, the words of the nodes held before, and all words past those of the nodes held
-- after
pub record Kept (s : Fill) (nodes lookup : List ℕ) (s' : Fill) (nodes' lookup' : List ℕ) : Type 0 where
  pub same_capacity : s'.capacity ≡ s.capacity
  pub grows : s.count ≤ s'.count
  pub fits : s'.count ≤ s.capacity
  pub long : length nodes' ≡ length nodes
  pub long_lookup : length lookup' ≡ length lookup
  pub below : (k : ℕ) → k < 3 * s.count → get_or nodes' k 0 ≡ get_or nodes k 0
  pub above : (k : ℕ) → 3 * s'.count ≤ k → get_or nodes' k 0 ≡ get_or nodes k 0

-- words to which nodes may have been added
pub record Added (n : ℕ) (nodes : List ℕ) (n' : ℕ) (nodes' : List ℕ) : Type 0 where
  pub grows : n ≤ n'
  pub below : (k : ℕ) → k < 3 * n → get_or nodes' k 0 ≡ get_or nodes k 0

-- a handle of so many nodes, and their words
pub record HandleAsks (nodes : List ℕ) (n p : ℕ) : Type 0 where
  pub held : p ≤ n + 1
  pub words : 3 * n ≤ length nodes
  pub small : n ≤ 1000000

-- the three words of the node after `count` others
unfoldable pub put_node : List ℕ → ℕ → ℕ → ℕ → ℕ → List ℕ
put_node nodes count item z o = set (set (set nodes (3 * count) item) (3 * count + 1) z) (3 * count + 2) o

-- A call that places the family F B of the book B that the words hold, with a true cache before and after, in every
-- store whose limit is at least `least`. On any words it keeps what must be kept.
pub record Ran (least : ℕ) (F : List Family → Family) (s : Fill) (nodes lookup cache : List ℕ) (r : Reached) (nodes' lookup' cache' : List ℕ) : Type 0 where
  pub kept : Kept s nodes lookup r.store nodes' lookup'
  pub handle : (h : ℕ) → r.answer ≡ Ok h → h ≤ r.store.count + 1
  pub long_cache : length cache' ≡ length cache
  pub rest : (k : ℕ) → length cache / 4 * 4 ≤ k → get_or cache' k 0 ≡ get_or cache k 0
  pub sound : {limit : ℕ} (B : List Family) → least ≤ limit → Holds limit B s.count nodes lookup → True limit B cache
      → Outcome limit (place B (F B)) (F B) s.capacity r.store.count nodes' lookup' r.answer
  pub cached : {limit : ℕ} (B : List Family) → least ≤ limit → Holds limit B s.count nodes lookup → True limit B cache
      → (h : ℕ) → r.answer ≡ Ok h → True limit (place B (F B)) cache'

-- a call that places the family F B with no use of the cache
pub record RanPlain (least : ℕ) (F : List Family → Family) (s : Fill) (nodes lookup : List ℕ) (r : Reached) (nodes' lookup' : List ℕ) : Type 0 where
  pub kept : Kept s nodes lookup r.store nodes' lookup'
  pub handle : (h : ℕ) → r.answer ≡ Ok h → h ≤ r.store.count + 1
  pub sound : {limit : ℕ} (B : List Family) → least ≤ limit → Holds limit B s.count nodes lookup
      → Outcome limit (place B (F B)) (F B) s.capacity r.store.count nodes' lookup' r.answer

-- When a store is sound: document 01, 'The store', its last paragraph, and document 02, No. 6.
use Rattle.std.specs.Prelude.{ℕ, ◌+◌, ◌*◌, ◌≤◌, ◌<◌, ◌≡◌, List, length, get_or}
use Rattle.family.specs.Family.{largest_item}
use Rattle.table.specs.Entered.{entered, start_at}
use Rattle.store.specs.declared.record.Store.{Store}
use Rattle.store.specs.Capacity.{capacity_of}
use Rattle.store.specs.Words.{top_at, book_of}
use Rattle.store.specs.Cache.{True}

-- What the words of node number k + 2 obey: "a sound store holds no item above" its limit, "No node has one child 0",
-- "nodes have children with smaller numbers and smaller tops".
pub record Node (limit : ℕ) (nodes : List ℕ) (k item zero_child one_child : ℕ) : Type 0 where
  pub item_limit : item ≤ limit
  pub one_some : 0 < one_child
  pub zero_before : zero_child < k + 2
  pub one_before : one_child < k + 2
  pub zero_below : top_at nodes zero_child < item
  pub one_below : top_at nodes one_child < item

-- "A store is sound when its words and record obey all of the above, .. the capacity's node words past the count are
-- 0, and the lookup is what entering the nodes in rising number gives."
pub record Sound (s : Store) (nodes lookup cache : List ℕ) : Type 0 where
  pub capacity_is : s.capacity ≡ capacity_of (length nodes)
  pub longer : s.capacity < length lookup
  pub within : s.count ≤ s.capacity
  -- "an item limit from 1 to 512 and the record carries it"
  pub limit_some : 1 ≤ s.limit
  pub limit_low : s.limit ≤ largest_item
  pub each : (k : ℕ) → k < s.count → Node s.limit nodes k (get_or nodes (3 * k) 0) (get_or nodes (3 * k + 1) 0) (get_or nodes (3 * k + 2) 0)
  -- "no two nodes have equal words"
  pub apart : (j k : ℕ) → j < k → k < s.count → get_or nodes (3 * j) 0 ≡ get_or nodes (3 * k) 0 → get_or nodes (3 * j + 1) 0 ≡ get_or nodes (3 * k + 1) 0
      → get_or nodes (3 * j + 2) 0 ≡ get_or nodes (3 * k + 2) 0 → ⊥
  pub blank : (k : ℕ) → 3 * s.count ≤ k → k < 3 * s.capacity → get_or nodes k 0 ≡ 0
  pub lookup_is : lookup ≡ entered (start_at nodes (length lookup)) (length lookup) s.count
  pub cached : True s.limit (book_of nodes s.count) cache

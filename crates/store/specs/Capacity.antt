-- The capacity, the item limit, and the four certain causes of refusal 10: document 01, 'The store' and 'Numbers and
-- trade words', and document 02, No. 6.
use Rattle.std.specs.Prelude.{ℕ, ◌/◌, min, Bool, ◌&&◌, eqb, ltb, leb}
use Rattle.family.specs.Family.{largest_item}
use Rattle.store.specs.declared.record.Store.{Store}

-- "Capacity is the node words divided by 3, rounded down, and at most 1,000,000."
abbrev pub capacity_of : ℕ → ℕ
capacity_of words = min (words / 3) 1000000

-- "an item limit from 1 to 512"
unfoldable pub is_limit : ℕ → Bool
is_limit limit = ltb 0 limit && leb limit largest_item

-- the record with so many nodes held
abbrev pub counting : Store → ℕ → Store
counting s n = record { capacity = s.capacity; count = n; limit = s.limit }

-- "10 is certain where the capacity in the record isn't the one that the node words give, the lookup isn't longer, or
-- the count exceeds the capacity"; "A record whose limit is outside 1 to 512 is a certain 10": whether none of the
-- four holds, for the lengths of the node and lookup words
unfoldable pub fitting : Store → ℕ → ℕ → Bool
fitting s nodes lookup = is_limit s.limit && (eqb s.capacity (capacity_of nodes) && (ltb s.capacity lookup && leb s.count s.capacity))

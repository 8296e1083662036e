-- The slot that a node's own words lead to, and the lookup with the newest nodes taken out.
use Rattle.std.specs.Prelude.{ℕ, zero, suc, ◌+◌, ◌*◌, cond, ◌||◌, List, length, nat_lt, slice_index, slice_set}
use Rattle.table.specs.Probe.{probe_of}

-- where the search for the words of node number k + 2 stops among the nodes before it; the length where its item is
-- none of 1 to 512
unfoldable pub own_of : List ℕ → List ℕ → ℕ → ℕ
own_of nodes lookup k =
    cond (nat_lt (slice_index nodes (3 * k)) 1 || nat_lt 512 (slice_index nodes (3 * k)))
    (length lookup)
    (probe_of nodes lookup k (slice_index nodes (3 * k)) (slice_index nodes (3 * k + 1)) (slice_index nodes (3 * k + 2)))

-- the slots of m nodes after the first keep emptied, the newest first
unfoldable pub cleared : List ℕ → List ℕ → ℕ → ℕ → List ℕ
cleared nodes lookup keep zero = lookup
cleared nodes lookup keep (suc m) = cleared nodes (slice_set lookup (own_of nodes lookup (keep + m)) 0) keep m

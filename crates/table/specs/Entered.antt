-- The lookup that entering nodes in rising number gives: document 01, 'The store'.
use Rattle.std.specs.Prelude.{ℕ, zero, suc, ◌+◌, ◌*◌, Bool, cond, List, [], ◌∷◌, length, replicate, ◌==◌, slice_index, slice_set}
use Rattle.table.specs.Start.{start_of}
use Rattle.table.specs.Probe.{scan}

-- "An empty slot is 0."
abbrev pub empty_slot : List ℕ → ℕ → Bool
empty_slot lookup x = slice_index lookup x == 0

-- the first empty slot from a start slot on and around the end
unfoldable pub first_free : List ℕ → ℕ → ℕ
first_free lookup start = scan (empty_slot lookup) (length lookup) (length lookup) start

-- a lookup of len slots with the numbers 2 to n + 1 entered in rising order; `starts` gives the start slot of number
-- k + 2
unfoldable pub entered : (ℕ → ℕ) → ℕ → ℕ → List ℕ
entered starts len zero = replicate len 0
entered starts len (suc n) = slice_set (entered starts len n) (first_free (entered starts len n) (starts n)) (n + 2)

-- the start slot of node number k + 2, by its words
unfoldable pub start_at : List ℕ → ℕ → ℕ → ℕ
start_at nodes len k = start_of (slice_index nodes (3 * k)) (slice_index nodes (3 * k + 1)) (slice_index nodes (3 * k + 2)) len

-- how many slots hold a number
unfoldable pub used : List ℕ → ℕ
used [] = 0
used (x ∷ l) = cond (x == 0) (used l) (suc (used l))

-- The probe of the lookup (the unique table): document 01, 'The store'.
use Rattle.std.specs.Prelude.{ℕ, zero, suc, ◌≡◌, ◌+◌, ◌-◌, ◌*◌, ◌<◌, Bool, cond, ◌&&◌, ◌||◌, Option, MatchOption, List, length, ◌==◌, nat_lt, slice_index}
use Rattle.table.specs.Start.{start_of}

-- the slot after a slot, "around the end"
unfoldable pub after : ℕ → ℕ → ℕ
after len at = cond (at + 1 == len) 0 (at + 1)

-- "the first slot, from the start slot on and around the end", at which a test holds, within some steps; the length
-- where there is none
unfoldable pub scan : (ℕ → Bool) → ℕ → ℕ → ℕ → ℕ
scan stop len zero at = len
scan stop len (suc n) at = let r = scan stop len n (after len at) in cond (stop at) at r

-- whether the words of node number h are these
unfoldable pub has_words : List ℕ → ℕ → ℕ → ℕ → ℕ → Bool
has_words nodes h item zero_child one_child =
    (slice_index nodes (3 * (h - 2)) == item) && (slice_index nodes (3 * (h - 2) + 1) == zero_child && slice_index nodes (3 * (h - 2) + 2) == one_child)

-- whether a search among the first count nodes stops at a slot's number h: one that is none of theirs (0 for an empty
-- slot), or the node that has the words
unfoldable pub stop_on : List ℕ → ℕ → ℕ → ℕ → ℕ → ℕ → Bool
stop_on nodes count item zero_child one_child h = nat_lt h 2 || (nat_lt (count + 1) h || has_words nodes h item zero_child one_child)

-- the slot at which the search for words stops
unfoldable pub probe_of : List ℕ → List ℕ → ℕ → ℕ → ℕ → ℕ → ℕ
probe_of nodes lookup count item zero_child one_child =
    scan (λ x. stop_on nodes count item zero_child one_child (slice_index lookup x)) (length lookup) (length lookup) (start_of item zero_child one_child (length lookup))

-- a slot of so many is the one at which a search stops
pub record StopsAt (slots stop slot : ℕ) : Type 0 where
  pub is : slot ≡ stop
  pub inside : slot < slots

-- the answer of a search that stops at some slot of so many; at none it stops where the slots end, and gives no slot
abbrev pub SlotOf : ℕ → ℕ → Option ℕ → Type 0
SlotOf slots stop answer = MatchOption answer (stop ≡ slots) (λ slot. StopsAt slots stop slot)

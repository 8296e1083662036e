-- Adding a line to a family: document 01, 'Report program', on the book of the store.
use Rattle.std.specs.Prelude.{ℕ, ◌+◌, ◌≤◌, ◌≡◌, Bool, true, false, cond, List, [], ◌∷◌}
use Rattle.family.specs.Family.{Family, base, largest_item}
use Rattle.family.specs.Operation.{change, union}
use Rattle.family.specs.Book.{at, number, place, Held}
use Rattle.store.specs.declared.record.Store.{Store}
use Rattle.store.specs.declared.record.Placement.{Placement}
use Rattle.store.specs.declared.record.Answered.{Answered}
use Rattle.store.specs.Refusals.{Given, refused_by, given_by}
use Rattle.store.specs.Words.{book_of}
use Rattle.store.specs.Sound.{Sound}
use Rattle.store.specs.Placing.{cost_of, too_large}

-- What calls that place leave: whether the last was refused as full, the book, the family placed last, and the nodes
-- that were added for it.
pub record Added : Type 0 where
  pub full : Bool
  pub book : List Family
  pub family : Family
  pub cost : ℕ

-- one call that places F
unfoldable pub called : ℕ → List Family → Family → Added
called capacity B F =
    cond (too_large capacity B F)
    (record { full = true; book = B; family = F; cost = 0 })
    (record { full = false; book = place B F; family = F; cost = cost_of B F })

-- the next call, unless one was refused
abbrev pub next_call : ℕ → (Family → Family) → Added → Added
next_call capacity f a = cond a.full a (called capacity a.book (f a.family))

-- "Each line is made by Change from handle 1 in rising items": a combination is a falling list, so the items behind x
-- are smaller and come first
abbrev pub line_made : ℕ → List Family → List ℕ → Added
line_made capacity B [] = record { full = false; book = B; family = base; cost = 0 }
line_made capacity B (x ∷ c) = next_call capacity (change x) (line_made capacity B c)

-- "then one Union into its family"
abbrev pub added : ℕ → List Family → Family → List ℕ → Added
added capacity B P c = next_call capacity (union P) (line_made capacity B c)

-- what the last call answers: 5 where the store was full, else the family's handle and the nodes added
abbrev pub last_answer : Added → Given
last_answer a = cond a.full (refused_by 5) (record { refusal = 0; handle = number a.book a.family; added = a.cost })

-- A store after calls that place, with their last answer: it is sound and has the limit of all items, its words are
-- those of the book (which a sound store's book decides), and an answer that is no refusal is the family's handle.
pub record After (capacity : ℕ) (r : Answered Placement) (nodes lookup cache : List ℕ) (a : Added) : Type 0 where
  pub sound : Sound r.store nodes lookup cache
  pub capacity_is : r.store.capacity ≡ capacity
  pub limit_is : r.store.limit ≡ largest_item
  pub book_is : book_of nodes r.store.count ≡ a.book
  pub answer_is : given_by r.answer ≡ last_answer a
  pub held : a.full ≡ false → Held a.book a.family

-- The promise of adding a combination to the family of a handle, for a sound store that holds the handle and has the
-- limit of all items, since a line's items go up to it.
pub record AddCall (s : Store) (nodes lookup cache : List ℕ) (p : ℕ) (c : List ℕ) (r : Answered Placement) (nodes' lookup' cache' : List ℕ) : Type 0 where
  pub on_sound : Sound s nodes lookup cache → s.limit ≡ largest_item → p ≤ s.count + 1
      → After s.capacity r nodes' lookup' cache' (added s.capacity (book_of nodes s.count) (at (book_of nodes s.count) p) c)

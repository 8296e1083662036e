-- What the functions below the public ones promise each other. A reader of the promises can pass this page over.
use Rattle.std.specs.Prelude.{ℕ, ◌≤◌, ◌≡◌, cond, List}
use Rattle.family.specs.Family.{largest_item}
use Rattle.family.specs.Operation.{change}
use Rattle.family.specs.Combination.{holds}
use Rattle.store.specs.declared.record.Store.{Store}
use Rattle.store.specs.declared.record.Placement.{Placement}
use Rattle.store.specs.declared.record.Answered.{Answered}
use Rattle.store.specs.Words.{book_of}
use Rattle.store.specs.Sound.{Sound}
use Rattle.report_add.specs.Promise.{Added, next_call, line_made, After}

-- an item to change by
pub record InRange (v : ℕ) : Type 0 where
  pub low : 1 ≤ v
  pub high : v ≤ largest_item

-- one Change more, where a combination holds the item
abbrev pub changed_by : ℕ → List ℕ → ℕ → Added → Added
changed_by capacity c v a = cond (holds v c) (next_call capacity (change v) a) a

pub record ChangeIt (m : Answered Placement) (nodes lookup cache : List ℕ) (c : List ℕ) (v : ℕ) (r : Answered Placement) (nodes' lookup' cache' : List ℕ) : Type 0 where
  pub after : (capacity : ℕ) (a : Added) → After capacity m nodes lookup cache a → After capacity r nodes' lookup' cache' (changed_by capacity c v a)

-- a combination made by Change from handle 1
pub record MakeIt (s : Store) (nodes lookup cache : List ℕ) (c : List ℕ) (r : Answered Placement) (nodes' lookup' cache' : List ℕ) : Type 0 where
  pub after : Sound s nodes lookup cache → s.limit ≡ largest_item → After s.capacity r nodes' lookup' cache' (line_made s.capacity (book_of nodes s.count) c)

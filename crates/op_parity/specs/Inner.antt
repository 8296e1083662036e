-- What the functions below Even and Odd ask. A reader of the promise can pass this page over.
use Rattle.std.specs.Prelude.{ℕ, ◌+◌, ◌≤◌, ◌<◌, ◌≡◌, List}
use Rattle.family.specs.Family.{largest_item}
use Rattle.store.specs.Words.{top_at}
use Rattle.store.specs.declared.record.Fill.{Fill}
use Rattle.store.specs.Inner.{Roomy}

-- a handle held and its top, on words that fit
pub record PartAsks (p level : ℕ) (s : Fill) (nodes lookup : List ℕ) : Type 0 where
  pub roomy : Roomy s nodes lookup
  pub held : p ≤ s.count + 1
  pub level_is : level ≡ top_at nodes p
  pub level_low : level ≤ largest_item

-- and the top is an item
pub record PartStepAsks (p level : ℕ) (s : Fill) (nodes lookup : List ℕ) : Type 0 where
  pub asks : PartAsks p level s nodes lookup
  pub some : 0 < level

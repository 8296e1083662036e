-- What the functions below Subset1, Subset0 and Change ask. A reader of the promises can pass this page over.
use Rattle.std.specs.Prelude.{ℕ, ◌≤◌, ◌<◌, ◌≡◌, List}
use Rattle.family.specs.Family.{largest_item}
use Rattle.store.specs.Words.{top_at}
use Rattle.store.specs.declared.record.Fill.{Fill}
use Rattle.op_cache.specs.declared.Call.{Call}
use Rattle.op_terminal.specs.Inner.{ItemCall}

-- a call with the top of its family
pub record RestrictAsks (call : Call) (level : ℕ) (s : Fill) (nodes lookup : List ℕ) : Type 0 where
  pub taken : ItemCall call s nodes lookup
  pub level_is : level ≡ top_at nodes call.p
  pub level_low : level ≤ largest_item

-- and an item below it
pub record ItemStepAsks (call : Call) (level : ℕ) (s : Fill) (nodes lookup : List ℕ) : Type 0 where
  pub asks : RestrictAsks call level s nodes lookup
  pub below : call.q < level

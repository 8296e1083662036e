-- What the end of a step promises the recursions. A reader of the promises can pass this page over.
use Rattle.std.specs.Prelude.{ℕ, ◌≡◌, List, Result, Ok, Err}
use Rattle.store.specs.declared.record.Unplaced.{Unplaced}
use Rattle.op_cache.specs.declared.Call.{Call}
use Rattle.op_cache.specs.Inner.{Remembered}

-- the cache after an answer: its handle is remembered, and nothing is remembered of a refusal
pub record RememberedAnswer (cache : List ℕ) (call : Call) (a : Result ℕ Unplaced) (cache' : List ℕ) : Type 0 where
  pub gave : (h : ℕ) → a ≡ Ok h → Remembered cache call h cache'
  pub refused : (x : Unplaced) → a ≡ Err x → cache' ≡ cache

-- What taking nodes back and ending a call promise. A reader of the promises can pass this page over.
use Rattle.std.specs.Prelude.{ℕ, ◌*◌, ◌-◌, ◌/◌, ◌≤◌, ◌≡◌, List, length, Result, Ok, Err}
use Rattle.words.specs.Words.{zeroed}
use Rattle.table.specs.Own.{cleared}
use Rattle.store.specs.declared.record.Store.{Store}
use Rattle.store.specs.declared.record.Unplaced.{Unplaced}
use Rattle.store.specs.declared.record.Placement.{Placement}
use Rattle.store.specs.declared.record.Answered.{Answered}
use Rattle.store.specs.Capacity.{counting}
use Rattle.store.specs.Inner.{fill_in, refusal_of, Roomy}

-- words that fit the record, and no more nodes to keep than are held
pub record UndoAsks (s : Store) (nodes lookup : List ℕ) (keep : ℕ) : Type 0 where
  pub roomy : Roomy (fill_in s) nodes lookup
  pub fewer : keep ≤ s.count

-- the newest nodes taken back until `keep` are left
pub record RolledBack (s : Store) (nodes lookup : List ℕ) (keep : ℕ) (nodes' lookup' : List ℕ) : Type 0 where
  pub nodes_are : nodes' ≡ zeroed (3 * keep) (3 * s.count) nodes
  pub lookup_is : lookup' ≡ cleared nodes lookup keep (s.count - keep)

-- How a call on the store s ends which now holds so many nodes: with a handle, the nodes added are the difference of
-- the two counts; refused, with the record as it came, those nodes taken back and the whole cache groups zeroed.
pub record Finished (s : Store) (held : ℕ) (answer : Result ℕ Unplaced) (nodes lookup cache : List ℕ) (r : Answered Placement) (nodes' lookup' cache' : List ℕ) : Type 0 where
  pub gave : (h : ℕ) → answer ≡ Ok h
      → (r.store ≡ counting s held) × (r.answer ≡ Ok (record { handle = h; added = held - s.count })) × (nodes' ≡ nodes) × (lookup' ≡ lookup) × (cache' ≡ cache)
  pub undone : (x : Unplaced) → answer ≡ Err x
      → (r.store ≡ s) × (r.answer ≡ Err (refusal_of x)) × RolledBack (counting s held) nodes lookup s.count nodes' lookup' × (cache' ≡ zeroed 0 (length cache / 4 * 4) cache)

-- What the functions below `take_piece` promise each other. A reader of the promises can pass this page over.
use Rattle.std.specs.Prelude.{ℕ, List}
use Rattle.store.specs.declared.record.Placement.{Placement}
use Rattle.store.specs.declared.record.Answered.{Answered}
use Rattle.report_line.specs.declared.Side.{Side}
use Rattle.report_line.specs.declared.Side.TheVariants.{Passed, Returned}
use Rattle.report_tally.specs.declared.Tally.{Tally}
use Rattle.report_add.specs.Promise.{AddCall}
use Rattle.report_tally.specs.Log.{Log}
use Rattle.report_tally.specs.Promise.{Keeps}
use Rattle.report_log.specs.Log.{take_line, counted}

-- a whole line taken
pub record LineIt (t : Tally) (nodes lookup cache : List ℕ) (d : Side) (c : List ℕ) (r : Tally) (nodes' lookup' cache' : List ℕ) : Type 0 where
  pub keeps : (capacity : ℕ) (g : Log) → Keeps capacity t nodes lookup cache g
      → Keeps capacity r nodes' lookup' cache' (counted g (take_line capacity g.lot d c))

-- the handle of the family that a line of a side goes to
abbrev pub side_handle : Side → Tally → ℕ
side_handle Passed t = t.passed
side_handle Returned t = t.returned

-- the tally behind a line of a side, by what adding it gave
pub record LineEnd (t : Tally) (d : Side) (m : Answered Placement) (r : Tally) : Type 0 where
  pub is : (nodes lookup cache c nodes' lookup' cache' : List ℕ)
      → AddCall t.store nodes lookup cache (side_handle d t) c m nodes' lookup' cache'
      → LineIt t nodes lookup cache d c r nodes' lookup' cache'

-- What closing a log promises.
use Rattle.std.specs.Prelude.{ℕ, ◌≤◌, ◌≡◌, List, length}
use Rattle.report_tally.specs.declared.Tally.{Tally}
use Rattle.report_tally.specs.Log.{Log}
use Rattle.report_tally.specs.Promise.{Keeps}
use Rattle.report_log.specs.Log.{output_of}

-- `close`: the text is what the log's end prints; the scratch has a word for each node of the capacity.
pub record CloseCall (t : Tally) (nodes lookup cache sizes text : List ℕ) : Type 0 where
  pub is : (capacity : ℕ) (g : Log) → Keeps capacity t nodes lookup cache g → capacity ≤ length sizes
      → text ≡ output_of capacity g

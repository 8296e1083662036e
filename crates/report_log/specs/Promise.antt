-- What taking bytes of a log promises: the tally and the lent words keep the log that the definitions name.
use Rattle.std.specs.Prelude.{ℕ, List}
use Rattle.report_tally.specs.declared.Tally.{Tally}
use Rattle.report_tally.specs.Log.{Log}
use Rattle.report_tally.specs.Promise.{Keeps}
use Rattle.report_log.specs.Log.{feed}

-- `take_piece`: words that keep a log keep it afterwards with the bytes behind it.
pub record TakeCall (t : Tally) (nodes lookup cache bytes : List ℕ) (t' : Tally) (nodes' lookup' cache' : List ℕ) : Type 0 where
  pub keeps : (capacity : ℕ) (g : Log) → Keeps capacity t nodes lookup cache g
      → Keeps capacity t' nodes' lookup' cache' (feed capacity g bytes)

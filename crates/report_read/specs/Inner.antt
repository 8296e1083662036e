-- What the functions below `read_all` promise each other. A reader of the promises can pass this page over.
use Rattle.std.specs.Prelude.{ℕ, List, Option, Some, None, Result, Ok, Err}
use Rattle.report_tally.specs.declared.Tally.{Tally}
use Rattle.report_read.specs.declared.Fed.{Fed}
use Rattle.report_read.specs.Answers.{ReadAnswer}
use Rattle.report_read.specs.Promise.{ReadCall}

-- what a read answered: how many bytes it brought, or none where it failed
abbrev pub got_of : {E : Type 0} → Result ℕ E → Option ℕ
got_of (Ok n) = Some n
got_of (Err e) = None

-- one read, taken
pub record OneRead (t : Tally) (nodes lookup cache : List ℕ) (r : Fed) (nodes' lookup' cache' : List ℕ) : Type 0 where
  pub answer : ReadAnswer
  pub taken : ReadCall t nodes lookup cache answer.buffer answer.got r nodes' lookup' cache'

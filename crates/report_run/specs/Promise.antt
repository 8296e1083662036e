-- What reporting on a log promises. Which answers a reader gives, no contract here says, and what becomes of the
-- bytes that the system is handed, no contract can say; what is made of the answers is exact.
use Rattle.std.specs.Prelude.{ℕ, ◌≡◌, List, Option, Some, None, Result, Ok, Err, IsErr, length}
use Rattle.arrayvec.specs.ArrayString.{ArrayString}
use Rattle.report_close.specs.Report.{report_of}
use Rattle.report_read.specs.declared.Input.{Input}
use Rattle.report_read.specs.declared.Input.TheVariants.{More, Done, Failed}
use Rattle.report_read.specs.Answers.{ReadAnswer, input_of, Heard, most_reads}
use Rattle.report_run.specs.declared.NoReport.{NoReport}
use Rattle.report_run.specs.declared.NoReport.TheVariants.{Unread, Unended, Unwritten}

-- the report that was made, where one was
abbrev pub made_of : Result ArrayString NoReport → Option (List ℕ)
made_of (Ok text) = Some text.bytes
made_of (Err (Unwritten text)) = Some text.bytes
made_of (Err Unread) = None
made_of (Err Unended) = None

-- how the input stands by what is answered: a report is made only where it is done
abbrev pub input_by : Result ArrayString NoReport → Input
input_by (Ok text) = Done
input_by (Err (Unwritten text)) = Done
input_by (Err Unread) = Failed
input_by (Err Unended) = More

-- "`gatecount` (500 nodes, ..)": how the input stands is what the reads say; where it is done the text is the report on
-- all that they brought, on a store of 500 nodes, and else there is none.
pub record ReportOf (input : Input) (text : Option (List ℕ)) : Type 0 where
  pub answers : List ReadAnswer
  pub heard : Heard 500 answers input
  pub all_made : input ≡ More → length answers ≡ most_reads
  pub text_is : input ≡ Done → text ≡ Some (report_of 500 (input_of answers))
  pub no_text : (input ≡ Done → ⊥) → text ≡ None

-- `report_on`: nothing counts as written where a read failed; where the input is done, whether the report was written
-- is the answer of the system's write.
pub record ReportCall (r : Result ArrayString NoReport) : Type 0 where
  pub report : ReportOf (input_by r) (made_of r)
  pub unwritten : (input_by r ≡ Done → ⊥) → IsErr r

-- What the functions below `report_on` promise each other. A reader of the promises can pass this page over.
use Rattle.std.specs.Prelude.{ℕ, ◌≡◌, List, Result, length}
use Rattle.arrayvec.specs.ArrayString.{ArrayString}
use Rattle.report_close.specs.Report.{report_of}
use Rattle.report_run.specs.declared.NoReport.{NoReport}
use Rattle.report_run.specs.Promise.{ReportCall}

-- "(500 nodes, 1,001 lookup words, 1,024 cache words)": a report, on words of these lengths
pub record Reported (lookup cache : List ℕ) (r : Result ArrayString NoReport) : Type 0 where
  pub lookup_words : length lookup ≡ 1001
  pub cache_words : length cache ≡ 1024
  pub report : ReportCall r

-- a text that is a report, on some input
pub record IsReport (text : List ℕ) : Type 0 where
  pub input : List ℕ
  pub is : text ≡ report_of 500 input

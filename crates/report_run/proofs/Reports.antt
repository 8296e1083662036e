-- The report of what was read, on a store of 500 nodes; and what became of it.
-- Fresh words keep the log of no byte, the reads keep the log of what they brought, and closing writes what it prints.
use Prim.Native.Nat.{ℕ}
use mathlib.Core.Path.{◌≡◌, refl, ap, subst, ◌∙◌}
use mathlib.Core.List.{List}
use native.Mathlib.Omega.{arith}
use lib.ListN.{length}
use Rattle.std.specs.Prelude.{Some, Ok, Err}
use Rattle.arrayvec.specs.ArrayString.{ArrayString}
use Rattle.store.specs.Capacity.{capacity_of}
use Rattle.report_tally.specs.declared.Tally.{Tally}
use Rattle.report_tally.specs.Log.{opening}
use Rattle.report_tally.specs.Promise.{Keeps, OpenCall}
use Rattle.report_log.specs.Log.{feed}
use Rattle.report_close.specs.Promise.{CloseCall}
use Rattle.report_close.proofs.Reports.{log_report}
use Rattle.report_read.specs.declared.Input.{Input}
use Rattle.report_read.specs.declared.Input.TheVariants.{More, Done, Failed}
use Rattle.report_read.specs.declared.Fed.{Fed}
use Rattle.report_read.specs.Answers.{input_of, Heard}
use Rattle.report_read.specs.Promise.{ReadAllCall}
use Rattle.report_read.proofs.Feedings.{reads_keep, reads_heard}
use Rattle.report_run.specs.declared.NoReport.TheVariants.{Unread, Unended}
use Rattle.report_run.specs.Promise.{ReportCall}

module _ {nodes₀ lookup₀ : List ℕ} {t : Tally} {nodes lookup cache : List ℕ} (en : length nodes₀ ≡ 1500) (el : length lookup₀ ≡ 1001) (O : OpenCall nodes₀ lookup₀ t nodes lookup cache) where
  opened : Keeps 500 t nodes lookup cache opening
  opened = let cap : capacity_of (length nodes₀) ≡ 500 = ap capacity_of en in subst (λ x. Keeps x t nodes lookup cache opening) cap (O.keeps (omega arith) (omega (arith, cap)))

  module _ {f : Fed} {nodes₁ lookup₁ cache₁ : List ℕ} (R : ReadAllCall t nodes lookup cache f nodes₁ lookup₁ cache₁) where
    heard_as : {i : Input} → f.input ≡ i → Heard 500 R.answers i
    heard_as e = rw (← e) (reads_heard 500 opened R.reads)

    -- the input did not come to its end
    pub unread : f.input ≡ Failed → ReportCall (Err Unread)
    unread e = record { report = record { answers = R.answers; heard = heard_as e; all_made = λ m. R.all_made (e ∙ m); text_is = λ d. absurd cc; no_text = λ d. refl }; unwritten = λ d. refl }

    pub unended : f.input ≡ More → ReportCall (Err Unended)
    unended e = record { report = record { answers = R.answers; heard = heard_as e; all_made = λ m. R.all_made (e ∙ m); text_is = λ d. absurd cc; no_text = λ d. refl }; unwritten = λ d. refl }

    pub reported : {sizes : List ℕ} {text : ArrayString} → f.input ≡ Done → length sizes ≡ 500 → CloseCall f.tally nodes₁ lookup₁ cache₁ sizes text.bytes → ReportCall (Ok text)
    reported e es C =
        record {
          report = record {
            answers = R.answers;
            heard = heard_as e;
            all_made = λ m. R.all_made (e ∙ m);
            text_is = λ d. ap Some (C.is 500 (feed 500 opening (input_of R.answers)) (reads_keep 500 opened R.reads) (omega arith) ∙ log_report 500 (input_of R.answers));
            no_text = λ d. absurd (d refl);
          };
          unwritten = λ d. absurd (d refl);
        }

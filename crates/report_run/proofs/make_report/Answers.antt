-- The report on what was read, on a store of 500 nodes; none where the input did not come to its end.
-- Fresh words keep the log of no byte, the reads keep the log of what they brought, and closing makes what it prints.
use Rattle.std.proofs.Common.{rules, ℕ}
use Rattle.std.proofs.Math.ListN.{length-replicate}
use Rattle.report_run.proofs.Reports.{unread, unended, reported}
use Rattle.report_run.proofs.make_report.Goals as goal

pub returns-in-Failed : goal.returns-in-Failed
returns-in-Failed g c =
    record {
      lookup_words = search rules;
      cache_words = search rules;
      report = unread (search rules) (search rules) c.open_log-t.ensures c.read_all-fed.ensures c.in-Failed.is;
    }

pub returns-in-More : goal.returns-in-More
returns-in-More g c =
    record {
      lookup_words = search rules;
      cache_words = search rules;
      report = unended (search rules) (search rules) c.open_log-t.ensures c.read_all-fed.ensures c.in-More.is;
    }

pub returns-in-Done : goal.returns-in-Done
returns-in-Done g c =
    record {
      lookup_words = search rules;
      cache_words = search rules;
      report = reported (search rules) (search rules) c.open_log-t.ensures c.read_all-fed.ensures c.in-Done.is (length-replicate {A = ℕ} 500 0) c.close.ensures;
    }

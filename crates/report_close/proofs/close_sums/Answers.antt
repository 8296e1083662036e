-- The two calls of the closing sums, and the four sizes; or a refusal, where the store was full.
-- The laws of `Closings` have one case for each way out.
use Rattle.report_close.proofs.Closings.{sums_first, sums_second, sums_told}
use Rattle.report_close.proofs.close_sums.Goals as goal

pub returns-in_err-both : goal.returns-in_err-both
returns-in_err-both c = sums_first c.intsec-first.ensures c.in_err-both.was c.from_residual.ensures.0

pub returns-in_err-only : goal.returns-in_err-only
returns-in_err-only c =
    sums_second c.intsec-first.ensures c.in_ok-both.was c.diff-second.ensures c.in_err-only.was c.from_residual-in_err-only.ensures.0

pub returns : goal.returns
returns c =
    sums_told c.intsec-first.ensures c.in_ok-both.was c.diff-second.ensures c.in_ok-only.was c.sizes_text.ensures

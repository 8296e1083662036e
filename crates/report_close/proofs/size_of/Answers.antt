-- The size of a family that the store holds, or 2^64 - 1 where it is larger.
-- Of a sound store with enough scratch Size refuses nothing but a size above 2^64 - 1.
use Rattle.report_close.proofs.Closings.{size_told}
use Rattle.report_close.proofs.size_of.Goals as goal

pub returns : goal.returns
returns c = size_told c.size.ensures c.unwrap_or.ensures

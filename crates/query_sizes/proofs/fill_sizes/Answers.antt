-- `fill_sizes` fills the words in rising number.
-- Each step puts one word more, the sum of two that stand before it.
use Rattle.std.proofs.Common.{arith}
use Rattle.query_sizes.proofs.Summing.{filled_step}
use Rattle.query_sizes.proofs.fill_sizes.Goals as goal

pub loop-j-preserved : goal.loop-j-preserved
loop-j-preserved c =
    let l = c.loop-j in
    filled_step _ _ _ c.loop-j-test.true (omega (arith, c.requires.scratch)) c.size_at-zero.ensures c.size_at-one.ensures c.saturating_add.ensures l.invariant

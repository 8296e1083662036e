-- `is_member` goes one way down; on that way the rest is a member exactly when the combination is one of p.
-- Each step leads to a smaller top, and 512 is the largest.
use Rattle.std.proofs.Common.{inl, inr, arith}
use Rattle.family.proofs.Words.{items_combined}
use Rattle.query_has.proofs.Descending.{along_base, along_else, along_outside, along_step}
use Rattle.query_has.proofs.is_member.Goals as goal
use Rattle.query_has.proofs.is_member.Goals.{else-loop-test, then-loop-test+then-at-lt2}

pub returns-then-count-at : goal.returns-then-count-at
returns-then-count-at c = along_outside _ _ _ _ _ _ _ c.loop.invariant c.if-count-at.true

pub loop-preserved : goal.loop-preserved
loop-preserved c =
    along_step _ _ _ _ _ _ _ c.loop.invariant c.if-at-lt2.false (items_combined c.loop.rest.words).falling _ _ c.step-at.ensures _ (omega arith)

pub returns-then-at-eq1 : goal.returns-then-at-eq1
returns-then-at-eq1 c = along_base _ _ _ _ _ _ _ c.loop.invariant c.if-at-eq1.true _ c.is_empty.ensures

pub returns-else-at-eq1 : goal.returns-else-at-eq1
returns-else-at-eq1 c =
    along_else _ _ _ _ _ _ _ c.loop.invariant c.if-at-eq1.false
    (elim c.loop-test.branch [ else-loop-test w ↦ inr (omega arith) | then-loop-test+then-at-lt2 w ↦ inl w.if-at-lt2.true ])

-- `exceeds` goes down the one sides as long as the zero side is {}; the size stays the same on that way.
-- Each way out is one law of that way.
use Rattle.std.proofs.Common.{inl, inr}
use Rattle.query_sizes.proofs.Brims.{down_leaf, down_told, down_step, down_end, none_told}
use Rattle.query_sizes.proofs.exceeds.Goals as goal

pub returns-then-at-lt2 : goal.returns-then-at-lt2
returns-then-at-lt2 c = search down_leaf

pub returns-then-zero-ne0 : goal.returns-then-zero-ne0
returns-then-zero-ne0 c =
    down_told _ _ _ _ _ _ c.loop-step.invariant c.if-at-lt2.false _ _ c.size_at-zero.ensures c.size_at-one.ensures
    (λ e. elim c.then-zero-ne0.either [ inl some ↦ absurd (some e) | inr low ↦ low.1 ])
    _ (none_told _ _ _ _ c.checked_add.ensures c.is_none.ensures)

pub loop-step-preserved : goal.loop-step-preserved
loop-step-preserved c = search down_step

pub returns : goal.returns
returns c = down_end _ _ _ _ _ _ c.loop-step.invariant c.loop-step-test.false

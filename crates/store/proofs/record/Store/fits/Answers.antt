-- `fits` is the definition's test, its four parts one after another.
-- Each way out is one part that fails, or the last.
use mathlib.Core.Path.{sym, ◌∙◌}
use Rattle.store.proofs.Fitting.{test_refused, test_passed, not_limit, not_capacity, not_longer, last_test}
use Rattle.store.proofs.record.Store.fits.Goals as goal

pub returns-then-not-is_limit : goal.returns-then-not-is_limit
returns-then-not-is_limit c = sym (not_limit _ _ _ (test_refused c.is_limit.ensures (rw c.if-not-is_limit.true)))

pub returns-then-self-capacity_of : goal.returns-then-self-capacity_of
returns-then-self-capacity_of c = sym (not_capacity _ _ _ (λ e. c.if-self-capacity_of.true (e ∙ sym c.capacity_of.ensures)))

pub returns-then-lookup-self : goal.returns-then-lookup-self
returns-then-lookup-self c = sym (not_longer _ _ _ c.if-lookup-self.true)

pub returns : goal.returns
returns c =
    sym (last_test _ _ _ (test_passed c.is_limit.ensures (rw c.if-not-is_limit.false)) (c.if-self-capacity_of.false ∙ c.capacity_of.ensures) c.if-lookup-self.false)

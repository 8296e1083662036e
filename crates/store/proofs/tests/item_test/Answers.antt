-- `item_test` decides whether a number is an item: 3 below 1 and above the limit.
-- Each way out decides one test of the definition.
use native.Mathlib.Omega.{arith}
use Rattle.store.proofs.Testing.{no_item, an_item, item_low, item_high, item_taken}
use Rattle.store.proofs.tests.item_test.Goals as goal

pub returns-then-item-lt1 : goal.returns-then-item-lt1
returns-then-item-lt1 c = no_item _ _ (item_low _ _ (omega (arith, c.if-item-lt1.true)))

pub returns-then-limit-item : goal.returns-then-limit-item
returns-then-limit-item c = no_item _ _ (item_high _ _ (omega (arith, c.if-limit-item.true)))

pub returns : goal.returns
returns c =
    an_item _ _ (item_taken _ _ (omega (arith, c.if-item-lt1.false)) (omega (arith, c.if-limit-item.false)))

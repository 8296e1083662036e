-- `hand_on` hands on in the window or below it.
-- Each way out is what the function that does it promises.
use mathlib.Core.Path.{refl}
use Rattle.query_ways.proofs.Handing.{handed_down}
use Rattle.query_ways.proofs.hand.Passage.hand_on.Goals as goal

pub returns-then-self-child : goal.returns-then-self-child
returns-then-self-child c = handed_down _ _ _ _ _ _ c.requires refl refl refl refl c.if-self-child.true c.hand_down.ensures

-- `hand_both` hands the ways of a node on to its without-side, where that is not {}, then to its with-side.
-- Each way out is one law of handing on.
use mathlib.Core.Path.{refl}
use Rattle.query_ways.proofs.Handing.{handed_down, both_one, both_two}
use Rattle.query_ways.proofs.hand.Passage.hand_both.Goals as goal

pub returns-then-zero-eq0 : goal.returns-then-zero-eq0
returns-then-zero-eq0 c = both_one _ _ _ _ _ _ c.requires c.if-zero-eq0.true c.hand_on.ensures

pub returns-then-self-zero : goal.returns-then-self-zero
returns-then-self-zero c =
    both_two _ _ _ _ _ _ c.requires (handed_down _ _ _ _ _ _ c.requires.asks refl refl refl refl c.if-self-zero.true c.in_ok-hand_down.ensures)
    c.hand_on-then-self-zero.ensures

pub returns : goal.returns
returns c = both_two _ _ _ _ _ _ c.requires c.in_ok-hand_below.ensures c.hand_on-2.ensures

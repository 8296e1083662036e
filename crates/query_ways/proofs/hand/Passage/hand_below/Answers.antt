-- `hand_below` walks a family in the table, and raises the total by its size for each way.
-- The window stays as it was.
use Prim.Native.Nat.{ℕ, ◌+◌}
use mathlib.Core.Path.{refl, ap, ◌∙◌}
use Rattle.query_ways.proofs.Handing.{handed_below}
use Rattle.query_ways.proofs.hand.Passage.hand_below.Goals as goal

pub returns : goal.returns
returns c =
    handed_below _ _ _ _ _ _ c.requires refl refl refl c.reach.ensures c.in_ok-number.was c.in_ok-size.ensures
    (c.in_ok-self.ensures.1 ∙ ap (λ (k : ℕ). c.args.self.now.total + k) c.in_ok-checked_mul.ensures.1)

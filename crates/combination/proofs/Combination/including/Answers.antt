-- `including` sets the bit at the item's place, which puts the item in where it was absent.
-- What has no place changes nothing, as it is no item.
use Rattle.combination.proofs.Places.{stays_in, in_at}
use Rattle.combination.proofs.Combination.including.Goals as goal

pub returns-in-Some : goal.returns-in-Some
returns-in-Some c = let g = c.well_formed.0.1.1.0 in in_at _ _ _ _ c.in-Some.ensures g.1.0.1

pub returns-in_default : goal.returns-in_default
returns-in_default c = stays_in _ _ c.in_default.ensures

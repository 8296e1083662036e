-- `contains` tells whether the record's combination holds the item.
-- It tests the bit at the item's place, and what has no place is in no combination of a record.
use Rattle.std.proofs.Common.{sym}
use Rattle.combination.proofs.Places.{outside, held_at}
use Rattle.combination.proofs.Combination.contains.Goals as goal

pub returns-in_default : goal.returns-in_default
returns-in_default c = sym (outside _ _ c.in_default.ensures)

pub returns : goal.returns
returns c = held_at _ _ _ _ c.in-Some.ensures

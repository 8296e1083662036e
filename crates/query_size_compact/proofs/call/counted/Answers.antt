-- `counted` makes a table in the scratch, walks the family and reads its size.
-- Each way out is one law of counting.
use mathlib.Core.Path.{refl}
use Rattle.std.proofs.Common.{rules}
use Rattle.query_size_compact.proofs.Counting.{counted_leaf, counted_none, counted_short, counted_told}
use Rattle.query_size_compact.proofs.call.counted.Goals as goal

pub returns-then-p-lt2 : goal.returns-then-p-lt2
returns-then-p-lt2 c = rw c.from.ensures (counted_leaf _ _ _ _ c.if-p-lt2.true)

pub returns-then-places-eq0 : goal.returns-then-places-eq0
returns-then-places-eq0 c = search counted_none

pub returns-in_default : goal.returns-in_default
returns-in_default c =
    counted_short _ _ _ _ c.if-p-lt2.false c.requires.held _ c.places_in-places.ensures c.new-parts.ensures c.in_default.ensures refl (search rules)

pub returns : goal.returns
returns c =
    counted_told _ _ _ _ c.if-p-lt2.false c.requires.held _ c.places_in-places.ensures c.new-parts.ensures c.in-Some.ensures refl _ c.size_of.ensures c.ok_or.ensures.value (search rules)

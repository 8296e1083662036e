-- Every item from 1 to 512 that the combination holds is put in by one Change, the smallest first.
-- Before each turn the combination of the smaller items is made.
use Rattle.report_add.proofs.Makings.{Making}
use Rattle.report_add.proofs.make_combination.Given as goal

abbrev pub invariant-loop-item : goal.invariant-loop-item
invariant-loop-item l = Making l.fn.store l.initial.nodes l.initial.lookup l.initial.cache l.items.words l.nodes l.lookup l.cache l.made l.item

-- Every item from 1 to 512 that the combination holds is put in by one Change, the smallest first.
-- Before each turn the combination of the smaller items is made.
use native.Mathlib.Omega.{arith}
use Rattle.report_add.proofs.Makings.{making_start, making_again, making_end}
use Rattle.report_add.proofs.make_combination.Goals as goal

pub loop-item-init : goal.loop-item-init
loop-item-init c = search making_start

pub loop-item-preserved : goal.loop-item-preserved
loop-item-preserved c = making_again c.loop-item.invariant (omega arith) (omega arith) c.change_by-made.ensures

pub returns : goal.returns
returns c = making_end c.loop-item.invariant (omega arith) (omega arith)

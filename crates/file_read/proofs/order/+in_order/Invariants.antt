-- `in_order` walks from a part to its children, whose numbers are smaller: the measure is the part's number.
-- Each way out is one law of the definition's walk.
use Rattle.file_read.proofs.order.+in_order.Given as goal

abbrev pub decreases-in_order : goal.decreases-in_order
decreases-in_order l = l.p

-- `add_members` adds the weight of each member below a handle; the bound falls from a call to the two within it.
-- Each way out is one law of walking.
use Rattle.query_weight.proofs.walk.+add_members.Given as goal

abbrev pub decreases-add_members : goal.decreases-add_members
decreases-add_members l = l.bound

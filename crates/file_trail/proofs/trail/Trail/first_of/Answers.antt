-- `first_of` keeps the first part, or takes p.
-- The definition's two cases.
use Rattle.file_trail.proofs.Links.{first_new, first_old}
use Rattle.file_trail.proofs.trail.Trail.first_of.Goals as goal

pub returns-then-self-eq0 : goal.returns-then-self-eq0
returns-then-self-eq0 c = search first_new

pub returns-else-self-eq0 : goal.returns-else-self-eq0
returns-else-self-eq0 c = search first_old

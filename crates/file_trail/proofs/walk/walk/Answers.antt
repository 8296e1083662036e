-- `walk` descends, unless the part was met already.
-- Each way out is one law of walking.
use mathlib.Core.Path.{sym, ◌∙◌}
use Rattle.file_trail.proofs.Walking.{walk_met}
use Rattle.file_trail.proofs.walk.walk.Goals as goal

pub returns-then-is_met : goal.returns-then-is_met
returns-then-is_met c = search walk_met

pub descend-requires : goal.descend-requires
descend-requires c = record { asks = c.requires; unmet = sym c.is_met.ensures ∙ c.if-is_met.false }

-- `is_met` reads the link of a handle.
-- The definition's two cases.
use Rattle.file_trail.proofs.Links.{met_leaf, met_word}
use Rattle.file_trail.proofs.trail.is_met.Goals as goal

pub returns-then-p-lt2 : goal.returns-then-p-lt2
returns-then-p-lt2 c = search met_leaf

pub returns : goal.returns
returns c = search met_word

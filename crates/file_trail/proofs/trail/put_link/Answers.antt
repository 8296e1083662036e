-- `put_link` sets the link of a handle.
-- The definition's two cases.
use Rattle.file_trail.proofs.Links.{linked_leaf, linked_word}
use Rattle.file_trail.proofs.trail.put_link.Goals as goal

pub returns-then-p-lt2 : goal.returns-then-p-lt2
returns-then-p-lt2 c = search linked_leaf

pub returns : goal.returns
returns c = search linked_word

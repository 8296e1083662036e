-- `children` splits a part at its top.
-- A top of 0 is no part's in words that hold a book; else `sides_at` says it.
use Rattle.file_trail.proofs.Walking.{split_none, split_sides}
use Rattle.file_trail.proofs.walk.children.Goals as goal

pub returns-then-top-eq0 : goal.returns-then-top-eq0
returns-then-top-eq0 c = search split_none

pub returns : goal.returns
returns c = search split_sides

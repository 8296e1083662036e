-- `enter` puts a handle behind the others, as the head of its chain, and its size.
-- The three writes are those of the law.
use mathlib.Core.Path.{refl}
use Rattle.query_parts.proofs.Tables.{entered}
use Rattle.query_parts.proofs.entries.Parts.enter.Goals as goal

pub returns : goal.returns
returns c =
    entered _ _ _ _ _ _ c.requires c.head_of.ensures c.linked.ensures c.headed.ensures _ refl refl refl

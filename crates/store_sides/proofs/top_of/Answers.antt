-- `top_of` reads the item of a node's words, and 0 for the two terminals.
-- Its test is the definition's.
use mathlib.Core.Path.{sym}
use Rattle.store.proofs.Held.{top_leaf, top_node}
use Rattle.store_sides.proofs.top_of.Goals as goal

pub returns-then-p-lt2 : goal.returns-then-p-lt2
returns-then-p-lt2 c = sym (top_leaf _ _ c.if-p-lt2.true)

pub returns : goal.returns
returns c = sym (top_node _ _ c.if-p-lt2.false)

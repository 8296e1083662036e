-- `size_of` reads the size of a number off its word.
-- {} and {{}} are their own sizes, the words of the others stand behind the tags.
use mathlib.Core.Path.{refl}
use native.Mathlib.Omega.{arith}
use Rattle.query_walk.proofs.Sums.{size_leaf, size_none, size_some}
use Rattle.query_walk.proofs.sizes.size_of.Goals as goal

pub returns-then-number-lt2 : goal.returns-then-number-lt2
returns-then-number-lt2 c = rw c.from.ensures (size_leaf _ _ c.if-number-lt2.true)

pub returns-in-0 : goal.returns-in-0
returns-in-0 c = size_none _ _ _ c.if-number-lt2.false refl c.in-0.is

pub returns-in_default : goal.returns-in_default
returns-in_default c = size_some _ _ _ c.if-number-lt2.false refl (λ e. omega arith)

-- `put_small` puts the two words of a node over small handles: the definition's own stores.
-- A weight of 32 bits times a small size leaves room for two small sums.
use mathlib.Core.Path.{refl}
use native.Mathlib.Omega.{arith}
use lib.ListN.{length-set}
use Rattle.query_sums.proofs.Putting.{light_product}
use Rattle.query_sums.proofs.nodes.put_small.Goals as goal

pub overflow_mul-words : goal.overflow_mul-words
overflow_mul-words c =
    let q = c.requires in
    omega (arith, q.without_small, q.with_small, light_product _ _ q.light q.with_small.size_low)

pub overflow_add-words-3 : goal.overflow_add-words-3
overflow_add-words-3 c =
    let q = c.requires in
    omega (arith, q.without_small, q.with_small, light_product _ _ q.light q.with_small.size_low)

pub bounds-words-k-2 : goal.bounds-words-k-2
bounds-words-k-2 c = simp length-set (omega arith)

pub returns : goal.returns
returns c = refl
